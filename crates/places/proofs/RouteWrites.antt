-- The route that was found, as it is written.
use Prim.Native.Nat.{ℕ, ◌+◌, ◌-◌, ◌≤◌}
use mathlib.Core.Path.{◌≡◌, sym, ◌∙◌, ap}
use mathlib.Core.List.{List, ◌++◌}
use native.Mathlib.Omega.{arith}
use borrow.Author.Tests.{ltb-false}
use lib.ListN.{length, get_or, take, drop, length-take, length-drop}
use lib.Seq.{take-length}
use Rattle.octets.specs.Outcome.{Outcome, given, on_outcome}
use Rattle.octets.specs.Octets.{AllOctets, part, placed, front, number_in}
use Rattle.octets.specs.Outputs.{written_of, output_of, Put}
use Rattle.octets.specs.declared.Written.{Written}
use Rattle.octets.proofs.Outcome.{given-otherwise}
use Rattle.octets.proofs.Outputs.{length-put}
use Rattle.octets.proofs.Lists.{lent_placed, placed-then, front-is-placed}
use Rattle.tunnel.specs.Attribute.{AttributeFields, fields_in, read_attribute, write_attribute}
use Rattle.tunnel.specs.Answers.{argument_fields}
use Rattle.tunnel.proofs.Theorems.{attribute_round_trips}
use Rattle.routes.specs.Route.{Route, nlri_of, attribute_of}
use Rattle.routes.specs.Place.{route_in}
use Rattle.places.specs.declared.output.RouteSizes.{RouteSizes}
use Rattle.places.specs.Writing.{RouteFits}

pub attribute-least : (s : List ℕ) (f : AttributeFields) → read_attribute s ≡ given f → 5 ≤ length s
unfolding read_attribute
attribute-least s f e = let p = given-otherwise _ _ _ _ (given-otherwise _ _ _ _ e).1 in omega (arith, ltb-false)

-- writing what stands in an attribute gives the attribute again
written-again : (s : List ℕ) (label : ℕ) (identifier : List ℕ) (capacity : ℕ) → AllOctets s → read_attribute s ≡ given (fields_in s)
    → label ≡ number_in (part s 2 3) 0 → identifier ≡ drop 5 s → length s ≤ capacity
    → write_attribute (argument_fields (get_or s 0 0) (get_or s 1 0) label identifier) capacity ≡ given s
unfolding fields_in
written-again s label identifier capacity octets read l i room = rw (l, i) (attribute_round_trips.written s (fields_in s) capacity octets read room)

given-size : (o : Outcome (List ℕ)) (s : List ℕ) → o ≡ given s → (written_of o).size ≡ length s
unfolding written_of on_outcome
given-size o s e = rw e

given-output : (o : Outcome (List ℕ)) (s d : List ℕ) → o ≡ given s → output_of o d ≡ s ++ drop (length s) d
unfolding output_of on_outcome front
given-output o s d e = rw e

module _ (s d lent : List ℕ) (at label : ℕ) (identifier : List ℕ) (octets : AllOctets s) (read : read_attribute s ≡ given (fields_in s))
    (room : at + length s ≤ length d) (labelled : label ≡ number_in (part s 2 3) 0) (identified : identifier ≡ drop 5 s) (lends : lent ≡ take (length d - at) (drop at d)) where
  again : write_attribute (argument_fields (get_or s 0 0) (get_or s 1 0) label identifier) (length lent) ≡ given s
  again = written-again s label identifier (length lent) octets read labelled identified (rw lends (simp (length-take, length-drop) (omega arith)))

  pub attribute-size : (written : Written) → written ≡ written_of (write_attribute (argument_fields (get_or s 0 0) (get_or s 1 0) label identifier) (length lent)) → written.size ≡ length s
  attribute-size written e = ap (λ (w : Written). w.size) e ∙ given-size _ s again

  pub attribute-placed : (y : List ℕ) → y ≡ output_of (write_attribute (argument_fields (get_or s 0 0) (get_or s 1 0) label identifier) (length lent)) lent
      → take at d ++ (y ++ drop (length d - at) (drop at d)) ≡ placed at s d
  attribute-placed y e =
      lent_placed at s d y room (e ∙ given-output _ s lent again ∙ ap (λ (x : List ℕ). s ++ drop (length s) x) lends ∙ ap (λ (x : List ℕ). x ++ drop (length s) (take (length d - at) (drop at d))) (sym (take-length s)))

-- NLRI and attribute, put one straight after the other
pub route-written : (r : Route) (d y z nlri attribute : List ℕ) (next : ℕ) → length (nlri_of r) + length (attribute_of r) ≤ length d
    → nlri ≡ nlri_of r → attribute ≡ attribute_of r → next ≡ 0 + length nlri → y ≡ placed 0 nlri d → z ≡ placed next attribute y → z ≡ front (nlri_of r ++ attribute_of r) d
route-written r d y z nlri attribute next room n a k p q =
    placed-then 0 next (nlri_of r) (attribute_of r) d y z (omega arith) (k ∙ ap (λ (x : List ℕ). 0 + length x) n) (p ∙ ap (λ (x : List ℕ). placed 0 x d) n)
    (q ∙ ap (λ (x : List ℕ). placed next x y) a)
    ∙ sym (front-is-placed (nlri_of r ++ attribute_of r) d)

-- what the function that writes a route needs of sizes
module _ (place output nlri : List ℕ) (w : RouteFits place output) (n : nlri ≡ nlri_of (route_in place)) where
  length-nlri : length nlri ≡ length (nlri_of (route_in place))
  length-nlri = ap length n

  pub nlri-room : 0 + length nlri ≤ length output
  nlri-room = let most = w.most in let room = w.room in omega (arith, length-nlri)

  pub nlri-small : (next : ℕ) → next ≡ 0 + length nlri → next ≤ 124
  nlri-small next k = let most = w.most in omega (arith, length-nlri)

  module _ (attribute : List ℕ) (a : attribute ≡ attribute_of (route_in place)) where
    length-attribute : length attribute ≡ length (attribute_of (route_in place))
    length-attribute = ap length a

    pub attribute-small : (size : ℕ) → size ≡ length attribute → size ≤ 124
    attribute-small size k = let most = w.most in omega (arith, length-attribute)

    pub attribute-room : (y : List ℕ) (next : ℕ) → Put 0 nlri output next y → (read_attribute attribute ≡ given (fields_in attribute)) × (next + length attribute ≤ length y)
    attribute-room y next p =
        let same = length-put 0 nlri output next y nlri-room p in
        (rw a w.read, omega (arith, length-nlri, length-attribute, p.0))

    pub route-sizes : (next size : ℕ) → next ≡ 0 + length nlri → size ≡ length attribute
        → ◌≡◌ {A = RouteSizes} (record { nlri = next; attribute = size }) (record { nlri = length (nlri_of (route_in place)); attribute = length (attribute_of (route_in place)) })
    route-sizes next size k l =
        let p : next ≡ length (nlri_of (route_in place)) = omega (arith, length-nlri) in
        let q : size ≡ length (attribute_of (route_in place)) = l ∙ length-attribute in
        rw (p, q)
