-- What routes hold of an NLRI, and what making a table, install, withdraw, mark and sweep answer and leave, in document 01's notions ("The numbers a call
-- gives back", "The table memory"). Proved in proofs/Definitions/Lookups and in MakeRules, InstallRules, WithdrawRules and RestartRules of proofs/Statements; MatchRule.antt is on match.
use Rattle.std.specs.Prelude.{ℕ, suc, ◌+◌, ◌<◌, ◌≡◌, Bool, true, false, List, [], ◌↔◌, ◌≢◌, length}
use Rattle.octets.specs.Numbers.{DONE, FAMILY, TABLE, ROOM, ABSENT, FLOW}
use Rattle.octets.specs.Lists.{Among}
use Rattle.routes.specs.Route.{Route, entry, route, nlri_of, Held, absent, held, lookup, inserted, removed, Distinct}
use Rattle.routes.specs.Table.{afi_in, places_in, routes_of, sound_of}
use Rattle.routes.specs.Restart.{RestartCall, renewed}
use Rattle.routes.specs.Calls.{make_of, install_of, withdraw_of, restart_of}
use Rattle.routes.specs.Rules.ArgumentRules.{KnownFamily, RouterSized, SPmsi, SPmsiOf, Labelled, NlriRefusal, RouteRefusal}
use Rattle.routes.specs.Rules.SoundRule.{TableSize}
use Rattle.routes.specs.Rules.Images.{TableOf}

-- what routes hold of an NLRI: nothing exactly when none of them has it; a route, where no two have the same NLRI, exactly when it is the one
-- of them that has it
pub record LookupRule : Type 0 where
  pub missing : (nlri : List ℕ) (rs : List Route) → (lookup nlri rs ≡ absent) ↔ ((r : Route) → Among r rs → nlri_of r ≢ nlri)
  pub found : (nlri : List ℕ) (r : Route) (rs : List Route) → Distinct rs → (lookup nlri rs ≡ held r) ↔ (Among r rs × (nlri_of r ≡ nlri))

-- routes hold some route of the NLRI
abbrev pub IsHeld : (nlri : List ℕ) → List Route → Type 0
IsHeld nlri rs = (r : Route) × (lookup nlri rs ≡ held r)

-- routes that hold this of an NLRI, and of every other NLRI what others hold
pub record HeldNow (nlri : List ℕ) (now : Held) (old new : List Route) : Type 0 where
  pub own : lookup nlri new ≡ now
  pub others : (other : List ℕ) → other ≢ nlri → lookup other new ≡ lookup other old

-- why making a table is refused: FAMILY, TABLE
pub data MakeRefusal (afi : ℕ) (memory : List ℕ) : ℕ → Type 0 where
  no_family : afi ≢ 1 → afi ≢ 2 → MakeRefusal afi memory FAMILY
  bad_size : KnownFamily afi → (TableSize (length memory) → ⊥) → MakeRefusal afi memory TABLE

-- making a table: each refusal exactly when, and what it leaves
pub record MakeRule : Type 0 where
  pub refuses : (afi : ℕ) (memory : List ℕ) (n : ℕ) → n ≢ DONE → ((make_of afi memory).answer ≡ n) ↔ MakeRefusal afi memory n
  pub done : (afi : ℕ) (memory : List ℕ) → ((make_of afi memory).answer ≡ DONE) ↔ (KnownFamily afi × TableSize (length memory))
  -- a table just made is sound and holds no route; a refusal leaves the memory as it was
  pub made : (afi : ℕ) (memory : List ℕ) → (make_of afi memory).answer ≡ DONE → TableOf afi (places_in memory) [] (make_of afi memory).octets
  pub size : (afi : ℕ) (memory : List ℕ) → length (make_of afi memory).octets ≡ length memory
  pub untouched : (afi : ℕ) (memory : List ℕ) → (make_of afi memory).answer ≢ DONE → (make_of afi memory).octets ≡ memory

-- an install that asks of a sound table what it takes, room apart
pub record Installable (t nlri attribute : List ℕ) : Type 0 where
  pub sound : sound_of t ≡ true
  pub named : SPmsi (afi_in t) nlri
  pub labelled : Labelled attribute

-- the NLRI is not held, and every place is taken
pub record Full (t nlri : List ℕ) : Type 0 where
  pub missing : lookup nlri (routes_of t) ≡ absent
  pub places : length (routes_of t) ≡ places_in t

-- the NLRI is not held, and a place is free
pub record Free (t nlri : List ℕ) : Type 0 where
  pub missing : lookup nlri (routes_of t) ≡ absent
  pub place : length (routes_of t) < places_in t

-- why install refuses: TABLE, its arguments, ROOM
pub data InstallRefusal (t nlri attribute : List ℕ) : ℕ → Type 0 where
  install_unsound : sound_of t ≡ false → InstallRefusal t nlri attribute TABLE
  bad_route : {n : ℕ} → sound_of t ≡ true → RouteRefusal (afi_in t) nlri attribute n → InstallRefusal t nlri attribute n
  no_room : Installable t nlri attribute → Full t nlri → InstallRefusal t nlri attribute ROOM

-- what an install that is done answers besides DONE: 2, "replaced", where the NLRI is held; 1, "new", where it is not and a place is free
pub data InstallDone (t nlri attribute : List ℕ) : (outcome : ℕ) → Type 0 where
  is_replaced : Installable t nlri attribute → IsHeld nlri (routes_of t) → InstallDone t nlri attribute 2
  is_new : Installable t nlri attribute → Free t nlri → InstallDone t nlri attribute 1

-- install: each answer exactly when, and what it leaves
pub record InstallRule : Type 0 where
  pub refuses : (t nlri attribute : List ℕ) (n : ℕ) → n ≢ DONE → ((install_of t nlri attribute).answer.number ≡ n) ↔ InstallRefusal t nlri attribute n
  pub done : (t nlri attribute : List ℕ) (o : ℕ) → ((install_of t nlri attribute).answer ≡ record { number = DONE; outcome = o }) ↔ InstallDone t nlri attribute o
  -- afterwards the NLRI has this attribute, and every other NLRI what it had; the table is sound, of the same family and size
  pub installed : (t nlri attribute : List ℕ) → (install_of t nlri attribute).answer.number ≡ DONE
      → HeldNow nlri (held (route nlri attribute)) (routes_of t) (routes_of (install_of t nlri attribute).octets)
  pub after : (t nlri attribute : List ℕ) → (install_of t nlri attribute).answer.number ≡ DONE
      → TableOf (afi_in t) (places_in t) (inserted (route nlri attribute) (routes_of t)) (install_of t nlri attribute).octets
  pub size : (t nlri attribute : List ℕ) → length (install_of t nlri attribute).octets ≡ length t
  -- a refusal has empty fields and changes no octet
  pub empty : (t nlri attribute : List ℕ) → (install_of t nlri attribute).answer.number ≢ DONE → (install_of t nlri attribute).answer.outcome ≡ 0
  pub untouched : (t nlri attribute : List ℕ) → (install_of t nlri attribute).answer.number ≢ DONE → (install_of t nlri attribute).octets ≡ t

-- a withdrawal that asks of a sound table what it takes
pub record Withdrawable (t nlri : List ℕ) : Type 0 where
  pub sound : sound_of t ≡ true
  pub named : SPmsi (afi_in t) nlri

-- why withdraw refuses: TABLE, its argument, ABSENT
pub data WithdrawRefusal (t nlri : List ℕ) : ℕ → Type 0 where
  withdraw_unsound : sound_of t ≡ false → WithdrawRefusal t nlri TABLE
  bad_name : {n : ℕ} → sound_of t ≡ true → NlriRefusal (afi_in t) nlri n → WithdrawRefusal t nlri n
  not_held : Withdrawable t nlri → lookup nlri (routes_of t) ≡ absent → WithdrawRefusal t nlri ABSENT

-- withdraw: each answer exactly when, and what it leaves
pub record WithdrawRule : Type 0 where
  pub refuses : (t nlri : List ℕ) (n : ℕ) → n ≢ DONE → ((withdraw_of t nlri).answer ≡ n) ↔ WithdrawRefusal t nlri n
  pub done : (t nlri : List ℕ) → ((withdraw_of t nlri).answer ≡ DONE) ↔ (Withdrawable t nlri × IsHeld nlri (routes_of t))
  -- afterwards the NLRI is not held, and every other NLRI has what it had; its room is free again
  pub withdrawn : (t nlri : List ℕ) → (withdraw_of t nlri).answer ≡ DONE → HeldNow nlri absent (routes_of t) (routes_of (withdraw_of t nlri).octets)
  pub room : (t nlri : List ℕ) → (withdraw_of t nlri).answer ≡ DONE → suc (length (routes_of (withdraw_of t nlri).octets)) ≡ length (routes_of t)
  pub after : (t nlri : List ℕ) → (withdraw_of t nlri).answer ≡ DONE → TableOf (afi_in t) (places_in t) (removed nlri (routes_of t)) (withdraw_of t nlri).octets
  pub size : (t nlri : List ℕ) → length (withdraw_of t nlri).octets ≡ length t
  -- a refusal changes no octet
  pub untouched : (t nlri : List ℕ) → (withdraw_of t nlri).answer ≢ DONE → (withdraw_of t nlri).octets ≡ t

-- routes of which a router's were marked, or swept, and how many went
pub record Renewed (afi : ℕ) (router : List ℕ) (mark : Bool) (old new : List Route) (gone : ℕ) : Type 0 where
  -- of its routes there are those that were not marked, each with this mark and no other
  pub own : (nlri attribute : List ℕ) (stale : Bool) → SPmsiOf afi router nlri → Among (entry nlri attribute stale) new ↔ ((stale ≡ mark) × Among (entry nlri attribute false) old)
  -- of others all that there were, with their marks
  pub others : (r : Route) → (SPmsiOf afi router (nlri_of r) → ⊥) → Among r new ↔ Among r old
  -- there are as many fewer as are told to have gone
  pub went : length new + gone ≡ length old

-- why mark and sweep refuse: TABLE, FLOW
pub data RestartRefusal (t router : List ℕ) : ℕ → Type 0 where
  restart_unsound : sound_of t ≡ false → RestartRefusal t router TABLE
  bad_router : sound_of t ≡ true → (RouterSized router → ⊥) → RestartRefusal t router FLOW

-- mark, or sweep, by the mark that it leaves: each answer exactly when, and what it leaves
pub record RestartRule (which : RestartCall) (mark : Bool) : Type 0 where
  -- each refusal exactly when, and DONE where there is none: also for a router that has no route
  pub refuses : (t router : List ℕ) (n : ℕ) → n ≢ DONE → ((restart_of which t router).answer.number ≡ n) ↔ RestartRefusal t router n
  pub done : (t router : List ℕ) → ((restart_of which t router).answer.number ≡ DONE) ↔ ((sound_of t ≡ true) × RouterSized router)
  -- of the router's routes those already marked went, as many as told; the others have this mark; every other route is as it was
  pub renews : (t router : List ℕ) → (restart_of which t router).answer.number ≡ DONE
      → Renewed (afi_in t) router mark (routes_of t) (routes_of (restart_of which t router).octets) (restart_of which t router).answer.gone
  -- the table is sound, of the same family and size
  pub after : (t router : List ℕ) → (restart_of which t router).answer.number ≡ DONE
      → TableOf (afi_in t) (places_in t) (renewed (afi_in t) which router (routes_of t)) (restart_of which t router).octets
  pub size : (t router : List ℕ) → length (restart_of which t router).octets ≡ length t
  -- a refusal has empty fields and changes no octet
  pub empty : (t router : List ℕ) → (restart_of which t router).answer.number ≢ DONE → (restart_of which t router).answer.gone ≡ 0
  pub untouched : (t router : List ℕ) → (restart_of which t router).answer.number ≢ DONE → (restart_of which t router).octets ≡ t
