-- The numbers by which arguments and the family are refused: none is DONE, TABLE, ROOM or ABSENT, which the table decides.
use Prim.Native.Nat.{ℕ}
use mathlib.Core.Path.{◌≡◌, refl}
use mathlib.Core.Bool.{true, false}
use mathlib.Core.List.{List, [], ◌∷◌}
use native.Mathlib.Omega.{arith}
use borrow.Author.Tests.{eqb-false}
use lib.Dec.{eqb}
use Rattle.octets.specs.Numbers.{DONE, TUNNEL, TABLE, ROOM, ABSENT}
use Rattle.octets.specs.Outcome.{refused}
use Rattle.octets.proofs.Outcome.{Refuses, value, number, refuses-pick, refuses-then, refuses-by, refuses-also, refused-of}
use Rattle.octets.proofs.Choice.{opposite, pick-case}
use Rattle.lists.specs.LentLists.{Item, item_field, read_list}
use Rattle.lists.proofs.Items.{first-item-case}
use Rattle.nlri.specs.Reading.{read_of_type}
use Rattle.nlri.specs.Groups.{class_under}
use Rattle.groups.specs.Prefixes.{read_prefixes}
use Rattle.groups.specs.Classes.{class_in}
use Rattle.nlri.proofs.Definitions.ReadNumbers.{ByReading, refuses-family, refuses-nlri}
use Rattle.tunnel.specs.Attribute.{read_attribute}
use Rattle.tunnel.specs.Identifier.{TableRow, identifier_forms, form_in, form_of, read_identifier}
use Rattle.routes.specs.Arguments.{read_s_pmsi, read_labelled, read_route, read_flow, read_match}
use Rattle.routes.specs.SharedTree.{SharedTree, read_source_active, source_active_fault, judged_tree, read_tree}
use Rattle.routes.specs.Asked.{Asked, of_flow, of_shared_tree, read_asked}
use Rattle.routes.specs.Restart.{read_router}
use Rattle.routes.specs.Call.{Call, install, withdraw, restart, match, argued}

-- a number that the table does not decide
abbrev pub ByArguments : ℕ → Type 0
ByArguments n = (n ≡ DONE → ⊥) × (n ≡ TABLE → ⊥) × (n ≡ ROOM → ⊥) × (n ≡ ABSENT → ⊥)

by-reading : (n : ℕ) → ByReading n → ByArguments n
by-reading n h = omega arith

type-argued : (type afi : ℕ) (nlri : List ℕ) → Refuses ByArguments (read_of_type type afi nlri)
type-argued type afi nlri = refuses-then _ _ (refuses-also by-reading (refuses-nlri afi nlri)) (λ f. refuses-pick _ _ _ value (number (omega arith)))

s-pmsi-argued : (afi : ℕ) (nlri : List ℕ) → Refuses ByArguments (read_s_pmsi afi nlri)
unfolding read_s_pmsi
s-pmsi-argued afi nlri = type-argued 3 afi nlri

form-argued : (rows : List TableRow) (type : ℕ) → Refuses ByArguments (form_in rows type)
unfolding form_in
form-argued [] type = number {n = TUNNEL} (omega arith)
form-argued (r ∷ rows) type = refuses-pick _ _ _ value (form-argued rows type)

pub attribute-argued : (s : List ℕ) → Refuses ByArguments (read_attribute s)
unfolding read_attribute read_identifier form_of
attribute-argued s =
    refuses-pick _ _ _ (number (omega arith))
    (refuses-pick _ _ _ (number (omega arith)) (refuses-then _ _ (refuses-then _ _ (form-argued identifier_forms _) (λ form. refuses-pick _ _ _ value (number (omega arith)))) (λ i. value)))

route-argued : (afi : ℕ) (nlri attribute : List ℕ) → Refuses ByArguments (read_route afi nlri attribute)
unfolding read_route read_labelled
route-argued afi nlri attribute =
    refuses-then _ _ (s-pmsi-argued afi nlri)
    (λ f. refuses-then _ _ (refuses-then _ _ (attribute-argued attribute) (λ g. refuses-pick _ _ _ (number (omega arith)) value)) (λ g. value))

class-argued : (bits : ℕ) (g : List ℕ) → Refuses ByArguments (class_under bits g)
unfolding class_under
class-argued bits g = refuses-pick _ _ _ (refuses-pick _ _ _ (refuses-pick _ _ _ value value) (number (omega arith))) (number (omega arith))

class-in-argued : (bits : ℕ) (items : List Item) (g : List ℕ) → Refuses ByArguments (class_in bits items g)
unfolding class_in
class-in-argued bits items g = refuses-then _ _ (class-argued bits g) (λ standard. value)

list-argued : (fields : ℕ) (list : List ℕ) → Refuses ByArguments (read_list fields list)
unfolding read_list
list-argued fields list = refuses-pick _ _ _ value (number (omega arith))

prefixes-argued : (bits : ℕ) (prefixes : List ℕ) → Refuses ByArguments (read_prefixes bits prefixes)
unfolding read_prefixes
prefixes-argued bits prefixes = refuses-pick _ _ _ (refuses-then _ _ (list-argued 1 prefixes) (λ items. refuses-pick _ _ _ value (number (omega arith)))) (number (omega arith))

pub number-source-active : (afi : ℕ) (x : Item) (n : ℕ) → read_source_active afi x ≡ refused n → ByArguments n
unfolding read_source_active
number-source-active afi x n e = refuses-by _ n (type-argued 5 afi (item_field 1 x)) e

fault-argued : (afi : ℕ) (items : List Item) → eqb (source_active_fault afi items) DONE ≡ false → ByArguments (source_active_fault afi items)
unfolding source_active_fault
fault-argued afi items =
    first-item-case _ _ _ (λ (n : ℕ). eqb n DONE ≡ false → ByArguments n) (λ f. absurd (opposite {b = true} refl f))
    (λ x t f. number-source-active afi x _ (refused-of (read_source_active afi x) _ refl (eqb-false _ _ f))) items

tree-argued : (afi : ℕ) (tree : SharedTree) → Refuses ByArguments (judged_tree afi tree)
unfolding judged_tree
tree-argued afi tree =
    refuses-then _ _ (refuses-also by-reading (refuses-family afi))
    (λ bits. refuses-then _ _ (prefixes-argued bits tree.prefixes)
    (λ items. refuses-pick _ _ _
    (refuses-pick _ _ _
    (refuses-then _ _ (list-argued 2 tree.source_actives)
    (λ source_actives. refuses-then _ _ (list-argued 2 tree.states)
    (λ states. refuses-pick _ _ _
    (refuses-pick _ _ _
    (refuses-pick _ _ _
    (refuses-then _ _ (class-in-argued bits items tree.group) (λ class. pick-case (Refuses ByArguments) _ _ _ (λ done. value) (λ fault. number (fault-argued afi source_actives fault))))
    (number (omega arith)))
    (number (omega arith)))
    (number (omega arith)))))
    (number (omega arith)))
    (number (omega arith))))

asked-argued : (afi : ℕ) (asked : Asked) (output : List ℕ) → Refuses ByArguments (read_asked afi asked output)
unfolding read_asked read_match read_flow read_tree
asked-argued afi (of_flow flow) output =
    refuses-then _ _
    (refuses-then _ _ (refuses-also by-reading (refuses-family afi))
    (λ bits. refuses-then _ _ (prefixes-argued bits flow.prefixes) (λ items. refuses-pick _ _ _ (refuses-pick _ _ _ (refuses-then _ _ (class-in-argued bits items flow.group) (λ class. value)) (number (omega arith))) (number (omega arith)))))
    (λ query. refuses-pick _ _ _ (number (omega arith)) value)
asked-argued afi (of_shared_tree tree) output = refuses-then _ _ (tree-argued afi tree) (λ class. refuses-pick _ _ _ (number (omega arith)) value)

pub number-s-pmsi : (afi : ℕ) (nlri : List ℕ) (n : ℕ) → read_s_pmsi afi nlri ≡ refused n → ByArguments n
number-s-pmsi afi nlri n e = refuses-by _ n (s-pmsi-argued afi nlri) e

pub number-asked : (afi : ℕ) (asked : Asked) (output : List ℕ) (n : ℕ) → read_asked afi asked output ≡ refused n → ByArguments n
number-asked afi asked output n e = refuses-by _ n (asked-argued afi asked output) e

pub number-route : (afi : ℕ) (nlri attribute : List ℕ) (n : ℕ) → read_route afi nlri attribute ≡ refused n → ByArguments n
number-route afi nlri attribute n e = refuses-by _ n (route-argued afi nlri attribute) e

-- a router address of another size
pub router-argued : (router : List ℕ) → Refuses ByArguments (read_router router)
unfolding read_router
router-argued router = refuses-pick _ _ _ value (number (omega arith))

refuses-argued : (afi : ℕ) (c : Call) → Refuses ByArguments (argued afi c)
unfolding argued
refuses-argued afi (install nlri attribute) = refuses-then _ _ (route-argued afi nlri attribute) (λ r. value)
refuses-argued afi (withdraw nlri) = refuses-then _ _ (s-pmsi-argued afi nlri) (λ f. value)
refuses-argued afi (restart which router) = refuses-then _ _ (router-argued router) (λ named. value)
refuses-argued afi (match asked output) = refuses-then _ _ (asked-argued afi asked output) (λ q. value)

pub number-argued : (afi : ℕ) (c : Call) (n : ℕ) → argued afi c ≡ refused n → ByArguments n
number-argued afi c n e = refuses-by _ n (refuses-argued afi c) e
