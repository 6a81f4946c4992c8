-- What a table holds after calls (specs/Rules/LastInstalled.antt).
use Prim.Native.Nat.{ℕ}
use mathlib.Core.Path.{◌≡◌, refl, sym, ap, ap₂, subst, ◌∙◌}
use mathlib.Core.Bool.{Bool, true}
use mathlib.Core.Logic.{◌↔◌}
use mathlib.Core.List.{List, [], ◌∷◌}
use borrow.Author.Tests.{eqb-true, eqb-false}
use lib.ListN.{length}
use lib.Dec.{eqb}
use Rattle.octets.specs.Numbers.{DONE}
use Rattle.octets.proofs.Choice.{tested}
use Rattle.octets.specs.Lists.{Among}
use Rattle.routes.specs.Route.{Route, entry, route, nlri_of, lookup, inserted, removed}
use Rattle.routes.specs.Table.{image_of, afi_in, places_in, routes_of, sound_of}
use Rattle.routes.specs.Restart.{renewed}
use Rattle.routes.specs.Calls.{make_of, install_of, withdraw_of, restart_of}
use Rattle.routes.specs.Call.{Call, install, withdraw, restart, match}
use Rattle.routes.specs.Run.{step_of, end_of}
use Rattle.routes.specs.Rules.Images.{TableOf}
use Rattle.routes.specs.Rules.LastInstalled.{Came, LastInstall, Kept, LastInstalled}
use Rattle.routes.proofs.Statements.ArgumentRules.{argument_rule}
use Rattle.routes.proofs.Statements.Decisions.{last-exactly}
use Rattle.routes.proofs.Statements.Images.{images, sound-holdable}
use Rattle.routes.proofs.Statements.InstallRules.{install_rule, install-done, install-octets}
use Rattle.routes.proofs.Definitions.Lookups.{lookup_rule, lookup-none, lookup-member, lookup-of-member}
use Rattle.routes.proofs.Definitions.Increases.{distinct-increasing}
use Rattle.routes.proofs.Statements.MakeRules.{make_rule}
use Rattle.routes.proofs.Statements.RestartRules.{restart_rule, mark_rule, sweep_rule, restart-octets}
use Rattle.routes.proofs.Statements.WithdrawRules.{withdraw_rule, withdraw-done, withdraw-octets}

-- octets that a call on a sound table leaves
record Next (t u : List ℕ) : Type 0 where
  sound : sound_of u ≡ true
  family : afi_in u ≡ afi_in t
  size : length u ≡ length t
  image : t ≡ image_of (afi_in t) (places_in t) (routes_of t) → u ≡ image_of (afi_in u) (places_in u) (routes_of u)

-- the same octets
next-same : (t u : List ℕ) → sound_of t ≡ true → u ≡ t → Next t u
next-same t u s e = subst (Next t) (sym e) (record { sound = s; family = refl; size = refl; image = λ i. i })

-- an image of routes is that of the routes found in it
own-image : (afi places : ℕ) (rs : List Route) (t : List ℕ) → TableOf afi places rs t → t ≡ image_of afi places rs → t ≡ image_of (afi_in t) (places_in t) (routes_of t)
own-image afi places rs t h e = e ∙ ap (λ (a : ℕ). image_of a places rs) (sym h.family) ∙ ap₂ (image_of (afi_in t)) (sym h.size) (sym h.routes)

-- the image of other routes
next-image : (t u : List ℕ) (rs : List Route) → length u ≡ length t → u ≡ image_of (afi_in t) (places_in t) rs → TableOf (afi_in t) (places_in t) rs u → Next t u
next-image t u rs l e h = record { sound = h.sound; family = h.family; size = l; image = λ i. own-image (afi_in t) (places_in t) rs u h e }

step-next : (t : List ℕ) (c : Call) → sound_of t ≡ true → Next t (step_of t c).octets
unfolding step_of
step-next t (install nlri attribute) s =
    tested (eqb (install_of t nlri attribute).answer.number DONE)
    (λ done.
    let d = eqb-true _ _ done in
    let p = install-done t nlri attribute d in
    next-image t _ (inserted (route nlri attribute) (routes_of t)) (install_rule.size t nlri attribute) (install-octets t nlri attribute p.0 p.1) (install_rule.after t nlri attribute d))
    (λ bad. next-same t _ s (install_rule.untouched t nlri attribute (eqb-false _ _ bad)))
step-next t (withdraw nlri) s =
    tested (eqb (withdraw_of t nlri).answer DONE)
    (λ done.
    let d = eqb-true _ _ done in
    next-image t _ (removed nlri (routes_of t)) (withdraw_rule.size t nlri) (withdraw-octets t nlri (withdraw-done t nlri d)) (withdraw_rule.after t nlri d))
    (λ bad. next-same t _ s (withdraw_rule.untouched t nlri (eqb-false _ _ bad)))
step-next t (restart which router) s =
    tested (eqb (restart_of which t router).answer.number DONE)
    (λ done.
    let d = eqb-true _ _ done in
    next-image t _ (renewed (afi_in t) which router (routes_of t)) ((restart_rule which).size t router) (restart-octets t router which d) ((restart_rule which).after t router d))
    (λ bad. next-same t _ s ((restart_rule which).untouched t router (eqb-false _ _ bad)))
step-next t (match asked output) s = next-same t t s refl

next-then : {t u v : List ℕ} → Next t u → Next u v → Next t v
next-then p q = record { sound = q.sound; family = q.family ∙ p.family; size = q.size ∙ p.size; image = λ i. q.image (p.image i) }

end-next : (calls : List Call) (t : List ℕ) → sound_of t ≡ true → Next t (end_of t calls)
unfolding end_of
end-next [] t s = next-same t t s refl
end-next (c ∷ cs) t s = let n = step-next t c s in next-then n (end-next cs (step_of t c).octets n.sound)

places-alike : (t u : List ℕ) → length t ≡ length u → places_in t ≡ places_in u
unfolding places_in
places-alike t u e = rw e

module _ (afi : ℕ) (memory : List ℕ) (calls : List Call) (done : (make_of afi memory).answer ≡ DONE) where
  made : TableOf afi (places_in memory) [] (make_of afi memory).octets
  made = make_rule.made afi memory done

  next : Next (make_of afi memory).octets (end_of (make_of afi memory).octets calls)
  next = end-next calls (make_of afi memory).octets made.sound

  exactly : (nlri attribute : List ℕ) (stale : Bool)
      → Among (entry nlri attribute stale) (routes_of (end_of (make_of afi memory).octets calls)) ↔ Came (LastInstall nlri attribute stale) (make_of afi memory).octets calls
  unfolding nlri_of
  exactly nlri attribute stale =
      let last = last-exactly nlri attribute stale (make_of afi memory).octets calls (ap (lookup nlri) made.routes ∙ lookup-none nlri) in
      let order = (sound-holdable (end_of (make_of afi memory).octets calls) next.sound).increasing in (
        λ m. last.0 (lookup-of-member (distinct-increasing order) m),
        λ l. (lookup-member _ (last.1 l)).0,
      )

  kept : Kept afi memory calls
  kept =
      let end : List ℕ = end_of (make_of afi memory).octets calls in
      let size : length end ≡ length memory = next.size ∙ make_rule.size afi memory in
      let bits : afi_in end ≡ afi = next.family ∙ made.family in
      let first = own-image afi (places_in memory) [] (make_of afi memory).octets made (images.made afi memory done) in
      record {
        sound = next.sound;
        family = bits;
        size = size;
        image = next.image first ∙ ap₂ (λ (a p : ℕ). image_of a p (routes_of end)) bits (places-alike end memory size);
        exactly = exactly;
      }

pub last_installed : LastInstalled
last_installed =
    record { arguments = argument_rule; lookups = lookup_rule; make = make_rule; install = install_rule; withdraw = withdraw_rule; mark = mark_rule; sweep = sweep_rule; kept = kept }
