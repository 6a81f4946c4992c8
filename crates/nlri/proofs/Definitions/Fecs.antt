-- A FEC that stands in a body, and one that is lent to be written, by what `fec_elements` proves of FECs that hold one another.
use Rattle.std.proofs.Common.{◌≡◌, ℕ, ◌⊎◌, List, [], ◌++◌, length, take, sym, refl, ap, ◌∙◌, inl, inr, append-nil}
use lib.Seq.{take-append_seam}
use Rattle.octets.specs.Numbers.{DONE, LENGTH, IDENT, DEEP}
use Rattle.octets.specs.Outcome.{given, number_of}
use Rattle.octets.specs.Octets.{AllOctets}
use Rattle.octets.proofs.Outcome.{number-given, done-given}
use Rattle.fec_elements.specs.declared.Standing.{Standing}
use Rattle.fec_elements.specs.declared.Standing.TheVariants.{InBody, Lent}
use Rattle.fec_elements.specs.Nested.{encode_element}
use Rattle.fec_elements.specs.Reading.{read_fec}
use Rattle.fec_elements.specs.Rules.FecRules.{OfFamily, in_body, Followed, anything, nothing_lent, Ended, inside, inside_lent, inside_filling, HeaderFault, type_ends, bad_type, family_ends, bad_family, size_ends, bad_size, root_ends, opaque_ends, overfull, FirstFault, header, too_deep, bad_holder, held}
use Rattle.fec_elements.proofs.Nesting.{read-refused}
use Rattle.fec_elements.proofs.Theorems.{nested_fec_rule, begins-read}
use Rattle.nlri.specs.Family.{root_family}
use Rattle.nlri.specs.Fields.{FecOf}

body-family : (bits address_family : ℕ) → OfFamily (InBody (root_family bits)) address_family → address_family ≡ root_family bits
body-family bits address_family in_body = refl

lent-rest : {afi : ℕ} {rest : List ℕ} → Followed (Lent afi) rest → rest ≡ []
lent-rest nothing_lent = refl

-- in a body it is read exactly where it stands
pub fec-sound : (bits : ℕ) (s : List ℕ) (n : ℕ) → AllOctets s → read_fec (InBody (root_family bits)) s ≡ given n → FecOf bits (take n s)
fec-sound bits s n a e =
    let q = (nested_fec_rule.accepted (InBody (root_family bits)) s n a).0 e in
    let b = q.2 in
    record {
      element = b.element;
      depth = q.0;
      shallow = q.1;
      well_formed = b.well_formed;
      family = body-family bits _ b.family;
      encoded = ap (take n) b.octets ∙ ap (λ (m : ℕ). take m (encode_element b.element ++ b.rest)) b.sized ∙ take-append_seam (encode_element b.element) b.rest;
    }

pub fec-complete : (bits : ℕ) (x t : List ℕ) → FecOf bits x → read_fec (InBody (root_family bits)) (x ++ t) ≡ given (length x)
fec-complete bits x t of =
    begins-read (InBody (root_family bits)) (x ++ t) (length x) of.depth of.shallow
    (record {
      element = of.element;
      rest = t;
      well_formed = of.well_formed;
      octets = ap (λ (y : List ℕ). y ++ t) of.encoded;
      sized = ap length of.encoded;
      family = rw of.family in_body;
      followed = anything;
    })

-- it is octets
pub octets-fec : (bits : ℕ) (x : List ℕ) → FecOf bits x → AllOctets x
octets-fec bits x of = rw of.encoded (nested_fec_rule.octets of.depth of.element of.well_formed)

-- lent to be written it is taken exactly where it is one
pub fec-lent : (bits : ℕ) (x : List ℕ) → FecOf bits x → number_of (read_fec (Lent (root_family bits)) x) ≡ DONE
fec-lent bits x of = number-given ((nested_fec_rule.lent (root_family bits) x (octets-fec bits x of)).1 (of.depth, of.shallow, of.element, of.well_formed, of.family, of.encoded))

pub lent-fec : (bits : ℕ) (x : List ℕ) → AllOctets x → number_of (read_fec (Lent (root_family bits)) x) ≡ DONE → FecOf bits x
lent-fec bits x a e =
    let p : Standing = Lent (root_family bits) in
    let g = done-given _ (λ n q. (read-refused p x n q).1) e in
    let all = (nested_fec_rule.accepted p x g.0 a).0 g.1 in
    let code : List ℕ = encode_element all.2.element in
    let whole : x ≡ code = all.2.octets ∙ ap (λ (t : List ℕ). code ++ t) (lent-rest all.2.followed) ∙ append-nil code in
    let size : g.0 ≡ length x = all.2.sized ∙ sym (ap length whole) in
    let q = (nested_fec_rule.lent (root_family bits) x a).0 (g.1 ∙ ap given size) in
    record { element = q.2; depth = q.0; shallow = q.1; well_formed = q.3; family = q.4; encoded = q.5 }

-- the numbers of its faults
abbrev pub FecNumber : ℕ → Type 0
FecNumber n = (n ≡ LENGTH) ⊎ (n ≡ IDENT) ⊎ (n ≡ DEEP)

ended-number : {p : Standing} {n : ℕ} → Ended p n → FecNumber n
ended-number inside = inl refl
ended-number inside_lent = inr (inl refl)
ended-number inside_filling = inr (inl refl)

header-number : {p : Standing} {s : List ℕ} {n : ℕ} → HeaderFault p s n → FecNumber n
header-number (type_ends h e) = ended-number e
header-number (bad_type h f) = inr (inl refl)
header-number (family_ends t h e) = ended-number e
header-number (bad_family t h f) = inr (inl refl)
header-number (size_ends t h e) = ended-number e
header-number (bad_size t h f) = inr (inl refl)
header-number (root_ends t h e) = ended-number e
header-number (opaque_ends t h l e) = ended-number e
header-number (overfull t h f) = inr (inl refl)

pub fault-number : {depth : ℕ} {p : Standing} {s : List ℕ} {n : ℕ} → FirstFault depth p s n → FecNumber n
fault-number (header h) = header-number h
fault-number (too_deep f o) = inr (inr refl)
fault-number (bad_holder f o u) = inr (inl refl)
fault-number (held k w f j) = fault-number j
