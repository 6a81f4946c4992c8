-- Reading and writing undo each other.
use Rattle.std.proofs.Common.{◌≡◌, ℕ, ◌*◌, ◌^◌, ◌<◌, ◌≤◌, Bool, true, false, List, [], length, sym, refl, ap, ◌∙◌, subst, ap₂, arith, le-ltb}
use Rattle.octets.specs.Numbers.{DONE}
use Rattle.octets.specs.Choice.{pick}
use Rattle.octets.specs.Outcome.{Outcome, given, refused, on_outcome}
use Rattle.octets.specs.Octets.{AllOctets, none, part}
use Rattle.octets.proofs.Choice.{pick-cong, pick-false}
use Rattle.octets.proofs.Outcome.{passed}
use Rattle.octets.proofs.AllOctets.{octets-sized}
use Rattle.octets.proofs.Lists.{sized_same, sized-back}
use Rattle.nlri.specs.Family.{family_bits}
use Rattle.nlri.specs.Bodies.{FieldKind, distinguisher, source_as, source, group, originator, key, fec, body_of, has_field}
use Rattle.nlri.specs.Fields.{Fields, encode_nlri, WellFormedField, WellFormed, KeyOf, restricted}
use Rattle.nlri.specs.Reading.{read_nlri}
use Rattle.nlri.specs.Writing.{write_nlri}
use Rattle.nlri.specs.Answers.{address_struct, distinguisher_struct, address_octets, nlri_struct, struct_fields, nlri_answer}
use Rattle.nlri.specs.declared.fields.Nlri.{Nlri}
use Rattle.nlri.specs.Rules.NlriRules.{HoldsOctets, StructHoldsOctets, RoundTrips}
use Rattle.nlri.proofs.Definitions.Keys.{octets-key}
use Rattle.nlri.proofs.Statements.ReadRefusals.{read_refusals, refusal-not-done}
use Rattle.nlri.proofs.Definitions.Lengths.{allowed-most, originator-sized, family-octets}
use Rattle.nlri.proofs.Statements.Acceptance.{read-sound, read-encoded}
use Rattle.nlri.proofs.Definitions.Whole.{field-in-body}
use Rattle.nlri.proofs.Definitions.Fecs.{octets-fec}
use Rattle.nlri.proofs.Definitions.FieldRecords.{fields-same}
use Rattle.nlri.proofs.Definitions.Writes.{write-is, write-well, write-restricted, written}
use Rattle.nlri.proofs.Functions.Singles.{key-spanned, fec-spanned}

write_read : (afi : ℕ) (s : List ℕ) (f : Fields) (space : ℕ) → AllOctets s → read_nlri afi s ≡ given f → length s ≤ space → write_nlri afi f space ≡ given s
write_read afi s f space a e room =
    let r = read-sound afi s f a e in
    let len : length (encode_nlri f) ≤ space = omega (arith, ap length r.encoded) in
    write-well afi r.bits r.of_family f space r.well_formed ∙ pick-false _ _ _ (le-ltb space (length (encode_nlri f)) len) ∙ ap given (sym r.encoded)

read-written : (afi : ℕ) (f : Fields) (space : ℕ) (e : List ℕ) → HoldsOctets f → write_nlri afi f space ≡ given e → read_nlri afi e ≡ given (restricted f)
read-written afi f space e held w =
    let p = passed _ _ _ (sym (write-is afi f space) ∙ w) in
    let r = written afi p.value p.first f held space e w in
    ap (read_nlri afi) (sym r.1) ∙ read-encoded afi p.value f p.first r.0

-- what a field that the type has holds of octets, a field that is nothing where the type lacks it holds too
octets-pick : (b : Bool) (x : List ℕ) → pick b x [] ≡ x → (b ≡ true → AllOctets x) → AllOctets x
unfolding pick
octets-pick true x e h = h refl
octets-pick false x e h = subst AllOctets e none

below-pick : (b : Bool) (x : ℕ) → pick b x 0 ≡ x → (b ≡ true → x < 2 ^ 32) → x < 2 ^ 32
unfolding pick
below-pick true x e h = h refl
below-pick false x e h = omega arith

held-read : (afi : ℕ) (s : List ℕ) (f : Fields) → AllOctets s → read_nlri afi s ≡ given f → HoldsOctets f
unfolding restricted
held-read afi s f a e =
    let r = read-sound afi s f a e in
    let body : List FieldKind = body_of f.type in
    let small : r.bits ≤ 128 = (family-octets afi r.bits r.of_family).1 in
    let at : (k : FieldKind) → has_field k body ≡ true → WellFormedField (KeyOf r.bits) r.bits f k = λ k h. field-in-body (KeyOf r.bits) r.bits f k body r.well_formed.encodable.body h in
    record {
      distinguisher_size = λ h. (at distinguisher h).0;
      distinguisher = octets-pick _ _ (ap (λ (g : Fields). g.distinguisher) r.whole) (λ h. (at distinguisher h).1);
      source_as = below-pick _ _ (ap (λ (g : Fields). g.source_as) r.whole) (at source_as);
      source = octets-pick _ _ (ap (λ (g : Fields). g.source) r.whole) (λ h. (at source h).1);
      group = octets-pick _ _ (ap (λ (g : Fields). g.group) r.whole) (λ h. (at group h).1);
      originator = octets-pick _ _ (ap (λ (g : Fields). g.originator) r.whole) (λ h. (at originator h).1);
      key = octets-pick _ _ (ap (λ (g : Fields). g.key) r.whole) (λ h. octets-key r.bits (family-octets afi r.bits r.of_family).0 small f.type f.key (at key h));
      fec = octets-pick _ _ (ap (λ (g : Fields). g.fec) r.whole) (λ h. octets-fec r.bits f.fec (at fec h));
    }

-- an address as a struct, and back
octets-address-struct : (x : List ℕ) → length x ≤ 16 → address_octets (address_struct x) ≡ x
unfolding address_octets address_struct
octets-address-struct x h = sized-back 16 x h

fields-struct : (afi bits : ℕ) (f : Fields) → family_bits afi ≡ given bits → WellFormed bits f → restricted f ≡ f → restricted (struct_fields (nlri_struct f) f.key f.fec) ≡ f
unfolding restricted struct_fields nlri_struct distinguisher_struct
fields-struct afi bits f of_family w whole =
    let body : List FieldKind = body_of f.type in
    let small : bits ≤ 128 = (family-octets afi bits of_family).1 in
    let at : (k : FieldKind) → has_field k body ≡ true → WellFormedField (KeyOf bits) bits f k = λ k h. field-in-body (KeyOf bits) bits f k body w.encodable.body h in
    fields-same refl
    (pick-cong _ _ _ _ _ (λ h. sized_same 8 f.distinguisher (at distinguisher h).0) (λ _. refl))
    refl
    (pick-cong _ _ _ _ _ (λ h. octets-address-struct f.source (omega (arith, allowed-most bits f.type (8 * length f.source) small (at source h).0))) (λ _. refl))
    (pick-cong _ _ _ _ _ (λ h. octets-address-struct f.group (omega (arith, allowed-most bits f.type (8 * length f.group) small (at group h).0))) (λ _. refl))
    (pick-cong _ _ _ _ _ (λ h. octets-address-struct f.originator (originator-sized (length f.originator) (at originator h).0).1) (λ _. refl))
    refl
    refl
    ∙ whole

fields-struct-read : (afi : ℕ) (s : List ℕ) (f : Fields) → AllOctets s → read_nlri afi s ≡ given f → restricted (struct_fields (nlri_struct f) f.key f.fec) ≡ f
fields-struct-read afi s f a e = let r = read-sound afi s f a e in fields-struct afi r.bits f r.of_family r.well_formed r.whole

write-struct : (afi : ℕ) (s : List ℕ) (f : Fields) (space : ℕ) → AllOctets s → read_nlri afi s ≡ given f → length s ≤ space → write_nlri afi (struct_fields (nlri_struct f) f.key f.fec) space ≡ given s
write-struct afi s f space a e room =
    sym (write-restricted afi (struct_fields (nlri_struct f) f.key f.fec) space) ∙ ap (λ (g : Fields). write_nlri afi g space) (fields-struct-read afi s f a e) ∙ write_read afi s f space a e room

pub held-struct : (nlri : Nlri) (key_octets fec_octets : List ℕ) → StructHoldsOctets nlri → AllOctets key_octets → AllOctets fec_octets → HoldsOctets (struct_fields nlri key_octets fec_octets)
unfolding struct_fields address_octets
held-struct nlri key_octets fec_octets h k c =
    record {
      distinguisher_size = λ _. h.distinguisher.0;
      distinguisher = h.distinguisher.1;
      source_as = h.source_as;
      source = octets-sized _ h.source;
      group = octets-sized _ h.group;
      originator = octets-sized _ h.originator;
      key = k;
      fec = c;
    }

-- what the call of reading answers where it is DONE
answered : (afi : ℕ) (s : List ℕ) (space : ℕ) → AllOctets s → (nlri_answer (read_nlri afi s)).number ≡ DONE → length s ≤ space
    → write_nlri afi (struct_fields (nlri_answer (read_nlri afi s)).nlri (part s (nlri_answer (read_nlri afi s)).key.start (nlri_answer (read_nlri afi s)).key.size)
    (part s (nlri_answer (read_nlri afi s)).fec.start (nlri_answer (read_nlri afi s)).fec.size)) space ≡ given s
unfolding nlri_answer on_outcome
answered afi s space a done room = go (read_nlri afi s) refl done
  where
    go : (o : Outcome Fields) → read_nlri afi s ≡ o → (nlri_answer o).number ≡ DONE
        → write_nlri afi (struct_fields (nlri_answer o).nlri (part s (nlri_answer o).key.start (nlri_answer o).key.size) (part s (nlri_answer o).fec.start (nlri_answer o).fec.size)) space ≡ given s
    go (given f) e done = ap₂ (λ (k c : List ℕ). write_nlri afi (struct_fields (nlri_struct f) k c) space) (key-spanned afi s f e) (fec-spanned afi s f e) ∙ write-struct afi s f space a e room
    go (refused n) e done = absurd (refusal-not-done afi s n ((read_refusals.exactly afi s n a).0 e) done)

pub round_trips : RoundTrips
round_trips =
    record {
      written = write_read;
      read = read-written;
      held = held-read;
      unseen = write-restricted;
      struct = fields-struct-read;
      spanned = λ afi s f a e. key-spanned afi s f e;
      fec_spanned = λ afi s f a e. fec-spanned afi s f e;
      struct_written = write-struct;
      answered = answered;
      struct_read = λ afi nlri key_octets fec_octets space e h k c w. read-written afi (struct_fields nlri key_octets fec_octets) space e (held-struct nlri key_octets fec_octets h k c) w;
    }
