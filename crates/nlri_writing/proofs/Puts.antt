-- What the inner functions of writing put, and how much room it takes.
use mathlib.Core.Path.{◌≡◌, refl, sym, ◌∙◌, ap, subst}
use Rattle.std.proofs.Common.{Result, Ok, Err}
use Rattle.std.specs.Result.{IsErrAnd}
use mathlib.Core.Bool.{Bool, true, false}
use mathlib.Core.List.{List, [], ◌∷◌, ◌++◌}
use Prim.Native.Nat.{ℕ, ◌+◌, ◌*◌, ◌≤◌}
use native.Mathlib.Omega.{arith}
use lib.ListN.{length, take, length-append}
use lib.Seq.{take-length}
use Rattle.octets.specs.Numbers.{DONE}
use Rattle.octets.specs.Choice.{pick}
use Rattle.octets.specs.Outcome.{Outcome, given, refused, on_outcome, number_of}
use Rattle.octets.specs.Octets.{big_endian}
use Rattle.octets.specs.Outputs.{written_of, Put, Wrote}
use Rattle.octets.specs.Refusals.{refusal_number, written_by}
use Rattle.octets.specs.declared.refusal.Refusal.{Refusal}
use Rattle.octets.proofs.Lists.{length-sized, sized-taken}
use Rattle.octets.proofs.NetworkOrder.{length-big_endian}
use Rattle.octets.proofs.Outputs.{length-put, put_as, put_then, wrote-put, wrote-refused}
use Rattle.nlri.specs.declared.address.Address.{Address}
use Rattle.nlri.specs.declared.fields.Nlri.{Nlri}
use Rattle.nlri.specs.Fields.{encode_address}
use Rattle.nlri.specs.Answers.{address_octets}
use Rattle.nlri_writing.specs.Inner.{framed, front_octets, front_size, flow_octets, end_octets, end_size, body_with, leaf_body, Putting}

pub length-octets : (a : Address) → length (address_octets a) ≡ a.size
unfolding address_octets
length-octets a = length-sized a.size a.octets

pub octets-taken : (a : Address) (n : ℕ) → a.size ≡ n → n ≤ length a.octets → take n a.octets ≡ address_octets a
unfolding address_octets
octets-taken a n e h = rw e (sym (sized-taken n a.octets h))

pub octets-all : (a : Address) → a.size ≡ length a.octets → a.octets ≡ address_octets a
octets-all a e = sym (take-length a.octets) ∙ octets-taken a (length a.octets) e (omega arith)

pub octets-none : (a : Address) → a.size ≡ 0 → [] ≡ address_octets a
octets-none a e = octets-taken a 0 e (omega arith)

pub address-split : (a : Address) → (8 * a.size ∷ []) ++ address_octets a ≡ encode_address (address_octets a)
unfolding encode_address
address-split a = ap (λ (n : ℕ). 8 * n ∷ address_octets a) (sym (length-octets a))

length-encode_address : (a : Address) → length (encode_address (address_octets a)) ≡ 1 + a.size
unfolding encode_address
length-encode_address a = omega (arith, length-octets a)

pub room-address : (a : Address) (at n : ℕ) → at + length (encode_address (address_octets a)) ≤ n → at + length ((8 * a.size ∷ []) ++ address_octets a) ≤ n
room-address a at n h = subst (λ (x : List ℕ). at + length x ≤ n) (sym (address-split a)) h

-- the octets of each part, and of the bodies
length_front : (numbered : Bool) (nlri : Nlri) → length nlri.distinguisher.octets ≡ 8 → length (front_octets numbered nlri) ≡ front_size numbered
unfolding front_octets front_size pick
length_front true nlri eight = omega (arith, length-append nlri.distinguisher.octets (big_endian 4 nlri.source_as), length-big_endian 4 nlri.source_as)
length_front false nlri eight = omega (arith, length-append nlri.distinguisher.octets [])

length-end : (originated : Bool) (nlri : Nlri) → length (end_octets originated nlri) ≡ end_size originated nlri.originator.size
unfolding end_octets end_size pick
length-end true nlri = length-octets nlri.originator
length-end false nlri = omega arith

pub length-with : (numbered originated : Bool) (nlri : Nlri) (between : List ℕ) → length nlri.distinguisher.octets ≡ 8
    → length (body_with numbered originated nlri between) ≡ front_size numbered + length between + end_size originated nlri.originator.size
unfolding body_with
length-with numbered originated nlri between eight =
    let a = length-append (front_octets numbered nlri) (between ++ end_octets originated nlri) in
    let b = length-append between (end_octets originated nlri) in
    omega (arith, length_front numbered nlri eight, length-end originated nlri)

pub length-flow : (nlri : Nlri) → length (flow_octets nlri) ≡ 2 + nlri.source.size + nlri.group.size
unfolding flow_octets
length-flow nlri =
    let l = length-append (encode_address (address_octets nlri.source)) (encode_address (address_octets nlri.group)) in
    omega (arith, length-encode_address nlri.source, length-encode_address nlri.group)

pub length-leaf : (nlri : Nlri) (key : List ℕ) → length (leaf_body nlri key) ≡ length key + nlri.originator.size
unfolding leaf_body
length-leaf nlri key = omega (arith, length-append key (address_octets nlri.originator), length-octets nlri.originator)

pub length-framed : (type : ℕ) (body : List ℕ) → length (framed type body) ≡ 2 + length body
unfolding framed
length-framed type body = omega arith

pub front-most : (numbered : Bool) → front_size numbered ≤ 12
unfolding front_size pick
front-most true = omega arith
front-most false = omega arith

pub end-most : (originated : Bool) (size : ℕ) → end_size originated size ≤ size
unfolding end_size pick
end-most true size = omega arith
end-most false size = omega arith

-- a refusal leaves the output
pub wrote-err : (n : ℕ) (o : Outcome (List ℕ)) (d : List ℕ) → refused n ≡ o → Wrote o d (record { number = n; size = 0 }) d
unfolding written_of number_of on_outcome
wrote-err n o d e = wrote-refused n o d _ e refl

-- so does one that is passed on
pub wrote_passed_on : (r : Result ℕ Refusal) (x : Refusal) (o : Outcome (List ℕ)) (d : List ℕ) → IsErrAnd r (λ y. y ≡ x) → refused (refusal_number x) ≡ o → Wrote o d (written_by r) d
wrote_passed_on (Ok n) x o d p e = absurd p
wrote_passed_on (Err y) x o d p e = wrote-err (refusal_number y) o d (ap (λ (z : Refusal). refused (refusal_number z)) p ∙ e)

-- an NLRI put: its header with the front of its body, then the rest
module _ (type size : ℕ) (front rest d : List ℕ) (p : Putting (front ++ rest) size d) where
  pub room-front : 2 + length front ≤ length d
  room-front = omega (arith, length-append front rest, p.exact, p.room)

  module _ (at : ℕ) (y : List ℕ) (first : Put 0 (type ∷ size ∷ front) d at y) where
    pub room-rest : at + length rest ≤ length y
    room-rest = omega (arith, length-append front rest, p.exact, p.room, first.0, length-put 0 (type ∷ size ∷ front) d at y (omega (arith, room-front)) first)

    pub put-framed : (last : ℕ) (z : List ℕ) → Put at rest y last z → Wrote (given (framed type (front ++ rest))) d (record { number = DONE; size = 2 + size }) z
    unfolding framed
    put-framed last z second =
        wrote-put _ d (2 + size) last z (omega (arith, p.exact))
        (put_as 0 ((type ∷ size ∷ front) ++ rest) _ d last z (ap (λ (n : ℕ). type ∷ n ∷ (front ++ rest)) p.exact) (put_then 0 (type ∷ size ∷ front) rest d (omega (arith, length-append front rest, p.exact, p.room)) at y first last z second))
