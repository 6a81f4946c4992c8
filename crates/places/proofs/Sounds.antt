-- Laws of the soundness pass, and of judging what a place or a call's arguments hold.
use Prim.Native.Nat.{ℕ, suc, ◌+◌, ◌-◌, ◌*◌, ◌/◌, ◌<◌, ◌≤◌}
use mathlib.Core.Path.{◌≡◌, refl, sym, ◌∙◌, ap, ap₂}
use mathlib.Core.Bool.{Bool, true, false}
use mathlib.Core.List.{List, []}
use native.Mathlib.Omega.{arith}
use borrow.Author.Tests.{eq-eqb, ne_eqb, lt-leb, le-leb, leb-true}
use lib.Dec.{eqb}
use lib.ListN.{length, get_or, take, drop}
use lib.Seq.{drop-drop}
use Rattle.octets.specs.Numbers.{DONE, LABEL, KIND}
use Rattle.octets.specs.Choice.{pick, both, either}
use Rattle.octets.specs.Outcome.{Outcome, given, refused, on_outcome, and_then, number_of}
use Rattle.octets.specs.Octets.{part, number_in, low_first}
use Rattle.octets.specs.Order.{same, before, all_zero}
use Rattle.octets.proofs.Choice.{both_true, both_left, both_right, both-last, pick_true, pick-false, opposite, both-true-left, both-true-right}
use Rattle.octets.proofs.Outcome.{number-goes, number-stops, refused-of, done-given, number-kept, number-picks, number-skips}
use Rattle.octets.proofs.LowFirst.{low-zero}
use Rattle.octets.proofs.Zeros.{zero-covered}
use Rattle.nlri.specs.Fields.{Fields}
use Rattle.nlri.specs.Reading.{read_nlri, is_s_pmsi}
use Rattle.tunnel.specs.Attribute.{read_attribute, fields_in, label_of}
use Rattle.tunnel.proofs.Definitions.Attributes.{read_done}
use Rattle.routes.specs.Route.{route, nlri_of, attribute_of}
use Rattle.routes.specs.Arguments.{read_s_pmsi, read_labelled, read_route}
use Rattle.routes.specs.Place.{end_in, route_in, acceptable, place_sound}
use Rattle.routes.specs.Table.{afi_in, count_in, places_in, header_start, table_size, header_sound, places_sound, sound_of}
use Rattle.routes.proofs.Definitions.ByArguments.{number-s-pmsi, number-route}
use Rattle.routes.proofs.Definitions.Bounds.{route-read, read-acceptable}
use Rattle.routes.proofs.Definitions.Headers.{SizeOf, sound-size}
use Rattle.places.specs.Passing.{rises_at}
use Rattle.places.proofs.Neighbours.{NlriAt, nlri-at, rises-first, rises_next}

-- the number of an attribute, by that of reading it
module _ (s : List ℕ) (n : ℕ) (e : n ≡ number_of (read_attribute s)) where
  pub attribute-refused : (n ≡ DONE → ⊥) → n ≡ number_of (read_labelled s)
  unfolding read_labelled
  attribute-refused d = number-stops n _ _ (refused-of _ n e d)

  module _ (z : n ≡ DONE) where
    pub attribute-other : (get_or s 1 0 ≡ 11 → ⊥) → DONE ≡ number_of (read_labelled s)
    unfolding read_labelled number_of fields_in
    attribute-other t = number-goes DONE _ (fields_in s) _ (read_done s n e z) (number-skips DONE _ _ _ (both_left _ _ (ne_eqb _ 11 t)) refl)

    module _ (t : get_or s 1 0 ≡ 11) (field : ℕ) (at : field ≡ number_in (part s 2 3) 0) where
      pub attribute-unlabelled : field / 16 ≡ 0 → LABEL ≡ number_of (read_labelled s)
      unfolding read_labelled number_of fields_in label_of
      attribute-unlabelled l =
          number-goes LABEL _ (fields_in s) _ (read_done s n e z) (number-picks LABEL _ _ _ (both_true _ _ (eq-eqb _ 11 t) (rw (← at) (eq-eqb _ 0 l))) refl)

      pub attribute-labelled : (field / 16 ≡ 0 → ⊥) → DONE ≡ number_of (read_labelled s)
      unfolding read_labelled number_of fields_in label_of
      attribute-labelled l =
          number-goes DONE _ (fields_in s) _ (read_done s n e z) (number-skips DONE _ _ _ (both_right _ _ (eq-eqb _ 11 t) (rw (← at) (ne_eqb _ 0 l))) refl)

-- where the number is DONE, what reading gives
pub s-pmsi-fault-none : (afi : ℕ) (nlri : List ℕ) → number_of (read_s_pmsi afi nlri) ≡ DONE → (f : Fields) × (read_s_pmsi afi nlri ≡ given f)
s-pmsi-fault-none afi nlri e = done-given (read_s_pmsi afi nlri) (λ n q. (number-s-pmsi afi nlri n q).0) e

pub route-fault-none : (afi : ℕ) (nlri attribute : List ℕ) → number_of (read_route afi nlri attribute) ≡ DONE → read_route afi nlri attribute ≡ given (route nlri attribute)
route-fault-none afi nlri attribute e =
    let r = done-given (read_route afi nlri attribute) (λ n q. (number-route afi nlri attribute n q).0) e in
    r.1 ∙ ap given (route-read afi nlri attribute r.0 r.1)

-- the number of a route's two judgements
pub route-stops : (afi : ℕ) (nlri attribute : List ℕ) (fault : ℕ) → fault ≡ number_of (read_s_pmsi afi nlri) → (fault ≡ DONE → ⊥) → fault ≡ number_of (read_route afi nlri attribute)
unfolding read_route
route-stops afi nlri attribute fault e h = number-stops fault _ _ (refused-of _ fault e h)

pub route-goes : (afi : ℕ) (nlri attribute : List ℕ) (fault second : ℕ) → fault ≡ number_of (read_s_pmsi afi nlri) → fault ≡ DONE → second ≡ number_of (read_labelled attribute)
    → second ≡ number_of (read_route afi nlri attribute)
unfolding read_route
route-goes afi nlri attribute fault second e h q =
    let f = s-pmsi-fault-none afi nlri (sym e ∙ h) in
    number-goes second _ f.0 _ f.1 (q ∙ number-kept (read_labelled attribute) (route nlri attribute))

-- an NLRI of type 3, and any other
module _ (afi : ℕ) (nlri : List ℕ) where
  s-pmsi-read : is_s_pmsi afi nlri ≡ true → (f : Fields) × (read_s_pmsi afi nlri ≡ given f)
  unfolding is_s_pmsi read_s_pmsi on_outcome and_then
  s-pmsi-read e = go (read_nlri afi nlri) e
    where
      go : (o : Outcome Fields) → on_outcome (λ number. false) (λ f. eqb f.type 3) o ≡ true
          → (f : Fields) × (and_then o (λ f. pick (eqb f.type 3) (given f) (refused KIND)) ≡ given f)
      go (given f) q = (f, pick_true _ _ _ q)
      go (refused n) q = absurd (opposite {b = true} refl (sym q))

  s-pmsi-unread : is_s_pmsi afi nlri ≡ false → (n : ℕ) × (read_s_pmsi afi nlri ≡ refused n)
  unfolding is_s_pmsi read_s_pmsi on_outcome and_then
  s-pmsi-unread e = go (read_nlri afi nlri) e
    where
      go : (o : Outcome Fields) → on_outcome (λ number. false) (λ f. eqb f.type 3) o ≡ false
          → (n : ℕ) × (and_then o (λ f. pick (eqb f.type 3) (given f) (refused KIND)) ≡ refused n)
      go (given f) q = (KIND, pick-false _ _ _ q)
      go (refused n) q = (n, refl)

  -- a route's number, where its NLRI is of type 3: its attribute's
  judged-route : is_s_pmsi afi nlri ≡ true → (attribute : List ℕ) (fault : ℕ) → fault ≡ number_of (read_labelled attribute) → fault ≡ number_of (read_route afi nlri attribute)
  unfolding number_of
  judged-route e attribute fault q = route-goes afi nlri attribute DONE fault (sym (ap number_of (s-pmsi-read e).1)) refl q

-- a header, by the two tests of it
module _ (t start : List ℕ) (flag : Bool) (s : start ≡ part t 0 6) (e : flag ≡ same start (header_start (afi_in t))) where
  start_is : flag ≡ same (take 6 t) (header_start (afi_in t))
  unfolding part
  start_is = e ∙ ap (λ (l : List ℕ). same l (header_start (afi_in t))) s

  pub header-good : (r : Bool) → flag ≡ true → r ≡ either (eqb (afi_in t) 1) (eqb (afi_in t) 2) → r ≡ header_sound t
  unfolding header_sound
  header-good r h q = both-last _ _ _ (sym start_is ∙ h) q

  pub header-bad : flag ≡ false → false ≡ header_sound t
  unfolding header_sound
  header-bad h = sym (both_left _ _ (sym start_is ∙ h))

-- a route is acceptable where its number is DONE
fault-acceptable : (afi : ℕ) (nlri attribute : List ℕ) → number_of (read_route afi nlri attribute) ≡ DONE → acceptable afi (route nlri attribute) ≡ true
unfolding nlri_of attribute_of
fault-acceptable afi nlri attribute e = read-acceptable afi (route nlri attribute) (route nlri attribute) (route-fault-none afi nlri attribute e)

fault-unacceptable : (afi : ℕ) (nlri attribute : List ℕ) (fault : ℕ) → fault ≡ number_of (read_route afi nlri attribute) → (fault ≡ DONE → ⊥) → acceptable afi (route nlri attribute) ≡ false
unfolding acceptable nlri_of attribute_of on_outcome
fault-unacceptable afi nlri attribute fault e h = let q : read_route afi nlri attribute ≡ refused fault = refused-of _ fault e h in rw q

other-unacceptable : (afi : ℕ) (nlri attribute : List ℕ) → is_s_pmsi afi nlri ≡ false → acceptable afi (route nlri attribute) ≡ false
unfolding acceptable read_route nlri_of attribute_of on_outcome and_then
other-unacceptable afi nlri attribute e = rw (s-pmsi-unread afi nlri e).1

-- a place, by the tests of it
module _ (afi : ℕ) (place : List ℕ) where
  pub place-over : 127 < end_in place → false ≡ place_sound afi place
  unfolding place_sound
  place-over h = sym (both_left _ _ (lt-leb (end_in place) 127 h))

  -- a mark that is neither 0 nor 1
  pub place-mismarked : end_in place ≤ 127 → 1 < get_or place 127 0 → false ≡ place_sound afi place
  unfolding place_sound
  place-mismarked within h = sym (both_right _ _ (le-leb (end_in place) 127 within) (both_left _ _ (lt-leb (get_or place 127 0) 1 h)))

  module _ (within : end_in place ≤ 127) (mark : get_or place 127 0 ≤ 1) (nlri : List ℕ) (n : nlri ≡ part place 2 (get_or place 0 0)) where
    route-is : (attribute : List ℕ) → attribute ≡ part place (2 + get_or place 0 0) (get_or place 1 0) → acceptable afi (route nlri attribute) ≡ acceptable afi (route_in place)
    unfolding route_in acceptable nlri_of attribute_of
    route-is attribute a = ap₂ (λ (x y : List ℕ). acceptable afi (route x y)) n a

    unacceptable : (attribute : List ℕ) → attribute ≡ part place (2 + get_or place 0 0) (get_or place 1 0) → acceptable afi (route nlri attribute) ≡ false → false ≡ place_sound afi place
    unfolding place_sound
    unacceptable attribute a q = sym (both_right _ _ (le-leb (end_in place) 127 within) (both_right _ _ (le-leb (get_or place 127 0) 1 mark) (both_left _ _ (sym (route-is attribute a) ∙ q))))

    -- by the number of its route
    module _ (attribute : List ℕ) (fault : ℕ) (a : attribute ≡ part place (2 + get_or place 0 0) (get_or place 1 0)) (f : fault ≡ number_of (read_route afi nlri attribute)) where
      pub route-refused : (fault ≡ DONE → ⊥) → false ≡ place_sound afi place
      route-refused q = unacceptable attribute a (fault-unacceptable afi nlri attribute fault f q)

      pub route-accepted : fault ≡ DONE → (body : List ℕ) (r : Bool) → body ≡ part place 0 127 → r ≡ all_zero (drop (end_in place) body) → r ≡ place_sound afi place
      unfolding place_sound part
      route-accepted q body r b z =
          both-last _ _ r (le-leb (end_in place) 127 within)
          (both-last _ _ r (le-leb (get_or place 127 0) 1 mark)
          (both-last _ _ r (sym (route-is attribute a) ∙ fault-acceptable afi nlri attribute (sym f ∙ q)) (z ∙ ap (λ (l : List ℕ). all_zero (drop (end_in place) l)) b)))

    -- by the tests of its NLRI and its attribute
    module _ (flag : Bool) (e : flag ≡ is_s_pmsi afi nlri) where
      pub place_other : flag ≡ false → false ≡ place_sound afi place
      place_other h = unacceptable _ refl (other-unacceptable afi nlri _ (sym e ∙ h))

      module _ (h : flag ≡ true) (attribute : List ℕ) (fault : ℕ) (a : attribute ≡ part place (2 + get_or place 0 0) (get_or place 1 0)) (f : fault ≡ number_of (read_labelled attribute)) where
        pub place-refused : (fault ≡ DONE → ⊥) → false ≡ place_sound afi place
        place-refused q = route-refused attribute fault a (judged-route afi nlri (sym e ∙ h) attribute fault f) q

        pub place-accepted : fault ≡ DONE → (body : List ℕ) (r : Bool) → body ≡ part place 0 127 → r ≡ all_zero (drop (end_in place) body) → r ≡ place_sound afi place
        place-accepted q body r b z = route-accepted attribute fault a (judged-route afi nlri (sym e ∙ h) attribute fault f) q body r b z

  pub sound-end : place_sound afi place ≡ true → end_in place ≤ 128
  unfolding place_sound
  sound-end h = let e : end_in place ≤ 127 = leb-true _ _ (both-true-left _ _ h) in omega (arith, e)

  -- the mark of a sound place
  pub sound-mark : place_sound afi place ≡ true → get_or place 127 0 ≤ 1
  unfolding place_sound
  sound-mark h = leb-true _ _ (both-true-left _ _ (both-true-right _ _ h))

-- zeros from `at` on: those behind the first n octets, then these, by the number in them
module _ (t : List ℕ) (at n : ℕ) (rest : List ℕ) (flag : Bool) (d : rest ≡ drop (at + n) t) (z : flag ≡ all_zero rest) where
  split : both (all_zero rest) (all_zero (part t at n)) ≡ all_zero (drop at t)
  unfolding part
  split = ap (λ (l : List ℕ). both (all_zero l) (all_zero (take n (drop at t)))) (d ∙ sym (drop-drop n at t)) ∙ zero-covered (drop at t) n n (omega arith)

  pub rest-other : flag ≡ false → false ≡ all_zero (drop at t)
  rest-other h = sym (sym split ∙ both_left _ _ (sym z ∙ h))

  pub rest-zero : flag ≡ true → (x : ℕ) → x ≡ low_first (part t at n) → eqb x 0 ≡ all_zero (drop at t)
  rest-zero h x e = both-last _ _ _ (sym z ∙ h) (ap (λ (k : ℕ). eqb k 0) e ∙ low-zero (part t at n)) ∙ split

-- the NLRI before the place from `at` on: of the sound place straight before it, and none before the first
pub data Previous (afi : ℕ) (t : List ℕ) (at : ℕ) (previous : List ℕ) : Type 0 where
  none : at ≡ 8 → previous ≡ [] → Previous afi t at previous
  neighbour : (from : ℕ) → at ≡ from + 128 → NlriAt t from → previous ≡ nlri_of (route_in (part t from 128)) → Previous afi t at previous

rises : {afi : ℕ} {t : List ℕ} {at : ℕ} {previous : List ℕ} → Previous afi t at previous → NlriAt t at → before previous (nlri_of (route_in (part t at 128))) ≡ rises_at at t
rises {t = t} {at = at} (none e q) n = ap (λ (s : List ℕ). before s (nlri_of (route_in (part t at 128)))) q ∙ rises-first t at (omega arith) n
rises {t = t} {at = at} (neighbour from e p q) n = ap (λ (s : List ℕ). before s (nlri_of (route_in (part t at 128)))) q ∙ rises_next t from at e p n

-- the pass over the places: so many are left, with the NLRI before them, and what is left decides
pub record Passing (afi count : ℕ) (t : List ℕ) (at : ℕ) : Type 0 where
  pub left : ℕ
  pub room : at + 128 * left ≡ 8 + 128 * count
  pub previous : List ℕ
  pub known : Previous afi t at previous
  pub is : places_sound afi [] count (drop 8 t) ≡ places_sound afi previous left (drop at t)

pub passing-first : (afi count : ℕ) (t : List ℕ) → Passing afi count t 8
passing-first afi count t = record { left = count; room = refl; previous = []; known = none refl refl; is = refl }

module _ (afi count : ℕ) (t : List ℕ) (at : ℕ) (fits : 8 + 128 * count ≤ length t) (p : Passing afi count t at) where
  module _ (some : at < 8 + 128 * count) (place : List ℕ) (sound : Bool) (s : place ≡ part t at 128) (e : sound ≡ place_sound afi place) where
    nlri : List ℕ
    nlri = nlri_of (route_in (part t at 128))

    whole : places_sound afi [] count (drop 8 t)
        ≡ both (place_sound afi (part t at 128)) (both (before p.previous nlri) (places_sound afi nlri (p.left - 1) (drop (at + 128) t)))
    unfolding places_sound part nlri
    whole =
        let one : p.left ≡ suc (p.left - 1) = omega (arith, p.room) in
        p.is ∙ ap (λ (k : ℕ). places_sound afi p.previous k (drop at t)) one ∙ rw (drop-drop 128 at t)

    judged : sound ≡ place_sound afi (part t at 128)
    judged = e ∙ ap (place_sound afi) s

    pub passing-unsound : sound ≡ false → false ≡ places_sound afi [] count (drop 8 t)
    passing-unsound h = sym (whole ∙ both_left _ _ (sym judged ∙ h))

    module _ (h : sound ≡ true) where
      pub passing-nlri : NlriAt t at
      passing-nlri = nlri-at afi t at (omega (arith, p.room)) (sym judged ∙ h)

      module _ (r : Bool) (q : r ≡ rises_at at t) where
        ordered : r ≡ before p.previous nlri
        unfolding nlri
        ordered = q ∙ sym (rises p.known passing-nlri)

        pub passing-unordered : r ≡ false → false ≡ places_sound afi [] count (drop 8 t)
        passing-unordered f = sym (whole ∙ both_right _ _ (sym judged ∙ h) (both_left _ _ (sym ordered ∙ f)))

        pub passing-next : r ≡ true → Passing afi count t (at + 128)
        unfolding both nlri
        passing-next u = record {
          left = p.left - 1;
          room = omega (arith, p.room);
          previous = nlri;
          known = neighbour at refl passing-nlri refl;
          is = whole ∙ rw (sym judged ∙ h, sym ordered ∙ u);
        }

  pub passing-ends : 8 + 128 * count ≤ at → (r : Bool) → r ≡ all_zero (drop at t) → r ≡ places_sound afi [] count (drop 8 t)
  unfolding places_sound
  passing-ends h r z =
      let none_left : p.left ≡ 0 = omega (arith, p.room) in
      z ∙ sym (p.is ∙ ap (λ (k : ℕ). places_sound afi p.previous k (drop at t)) none_left)

-- a table's size has room for the header
pub header-room : (size : ℕ) (flag : Bool) → flag ≡ table_size size → flag ≡ true → 8 ≤ size
unfolding table_size
header-room size flag s h = leb-true _ _ (both-true-left _ _ (sym s ∙ h))

-- a table, by the tests of it in their order
module _ (t : List ℕ) (size : Bool) (s : size ≡ table_size (length t)) where
  pub missized : size ≡ false → false ≡ sound_of t
  unfolding sound_of
  missized h = sym (both_left _ _ (sym s ∙ h))

  module _ (sized : size ≡ true) where
    measured : SizeOf (length t) (places_in t)
    measured = sound-size t (sym s ∙ sized)

    pub places-room : (count places : ℕ) → places ≡ places_in t → count ≤ places → 8 + 128 * count ≤ length t
    places-room count places p h = omega (arith, measured.is)

    module _ (header : Bool) (g : header ≡ header_sound t) where
      pub headless : header ≡ false → false ≡ sound_of t
      unfolding sound_of
      headless h = sym (both_right _ _ (sym s ∙ sized) (both_left _ _ (sym g ∙ h)))

      module _ (headed : header ≡ true) (count places : ℕ) (c : count ≡ count_in t) (p : places ≡ places_in t) where
        pub overfull : places < count → false ≡ sound_of t
        unfolding sound_of
        overfull h = sym (both_right _ _ (sym s ∙ sized) (both_right _ _ (sym g ∙ headed) (both_left _ _ (lt-leb (count_in t) (places_in t) (omega arith)))))

        pub placed-soundly : count ≤ places → (afi : ℕ) (r : Bool) → afi ≡ afi_in t → r ≡ places_sound afi [] count (drop 8 t) → r ≡ sound_of t
        unfolding sound_of
        placed-soundly h afi r a e =
            both-last _ _ r (sym s ∙ sized)
            (both-last _ _ r (sym g ∙ headed)
            (both-last _ _ r (le-leb (count_in t) (places_in t) (omega arith)) (e ∙ ap₂ (λ (x y : ℕ). places_sound x [] y (drop 8 t)) a c)))
