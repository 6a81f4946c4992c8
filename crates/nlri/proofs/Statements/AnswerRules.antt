-- What a caller sees of the answers of reading and of writing.
use Rattle.std.proofs.Common.{◌≡◌, ℕ, ◌*◌, ◌≤◌, Bool, true, false, eqb, List, [], length, sym, refl, ap, ◌∙◌, subst, arith, eqb-true}
use borrow.Author.Tests.{eqb-false}
use Rattle.octets.specs.Choice.{pick, both, either}
use Rattle.octets.specs.Outcome.{Outcome, given, refused, on_outcome, number_of}
use Rattle.octets.specs.Octets.{AllOctets}
use Rattle.octets.specs.Outputs.{Wrote, written_of}
use Rattle.octets.specs.Rules.Answering.{Answering}
use Rattle.octets.specs.declared.Written.{Written}
use Rattle.octets.proofs.Choice.{tested, pick-false, both-true-left, both-true-right, either-false}
use Rattle.octets.proofs.Lists.{length-sized, get_or-sized, sized-zeros}
use Rattle.octets.proofs.Answering.{answering, wrote_rule}
use Rattle.nlri.specs.Bodies.{FieldKind, distinguisher, source_as, source, group, originator, key, fec, KnownType, bodies, on_body, body_of, code_of, same_kind, has_field}
use Rattle.nlri.specs.Fields.{Fields, WellFormedField, KeyOf, restricted}
use Rattle.nlri.specs.Reading.{read_nlri}
use Rattle.nlri.specs.Writing.{write_nlri}
use Rattle.nlri.specs.Answers.{address_struct, distinguisher_struct, address_octets, nlri_struct, struct_fields, no_fields, key_span, fec_span, nlri_answer}
use Rattle.nlri.specs.Rules.NlriRules.{StructHoldsOctets, ReadRefusal, WriteRefusal}
use Rattle.nlri.specs.Rules.AnswerRules.{AddressTold, KeyStart, leaf_key, mldp_leaf_key, keyless, FecStart, s_pmsi_fec, join_fec, fecless, NlriTold, NoAddress, NlriUntold, AddressGiven, NlriGiven, WriteAnswer, NlriAnswers}
use Rattle.nlri.specs.declared.address.Address.{Address}
use Rattle.nlri.specs.declared.fields.Nlri.{Nlri}
use Rattle.nlri.proofs.Definitions.Lengths.{allowed-most, originator-sized, family-octets}
use Rattle.nlri.proofs.Definitions.Table.{known, every, every-row, agree, agree_same}
use Rattle.nlri.proofs.Definitions.Whole.{field-in-body}
use Rattle.nlri.proofs.Functions.Singles.{key-spanned, fec-spanned}
use Rattle.nlri.proofs.Statements.Acceptance.{acceptance}
use Rattle.nlri.proofs.Statements.RoundTrips.{held-struct}
use Rattle.nlri.proofs.Statements.ReadRefusals.{read_refusals}
use Rattle.nlri.proofs.Statements.WriteRefusals.{write_refusals, write-not-done}

-- every row of document 01's table has a key in types 4 and 68 alone, and a FEC in types 67 and 71 alone
spans_test : ℕ → List FieldKind → Bool
spans_test type body = both (agree (has_field key body) (either (eqb type 4) (eqb type 68))) (agree (has_field fec body) (either (eqb type 67) (eqb type 71)))

spans-tested : every spans_test bodies ≡ true
unfolding spans_test every agree bodies both has_field either same_kind code_of pick
spans-tested = refl

spans-row : (type : ℕ) → KnownType type → spans_test type (body_of type) ≡ true
spans-row type t = every-row spans_test spans-tested type (known type t)

key-starts : (type : ℕ) → KnownType type → KeyStart type (pick (has_field key (body_of type)) 2 0)
unfolding spans_test body_of on_body bodies has_field same_kind code_of either pick
key-starts type t =
    tested (eqb type 4) (λ yes. subst (λ (n : ℕ). KeyStart n (pick (has_field key (body_of n)) 2 0)) (sym (eqb-true type 4 yes)) leaf_key)
    (λ not_four.
    tested (eqb type 68) (λ yes. subst (λ (n : ℕ). KeyStart n (pick (has_field key (body_of n)) 2 0)) (sym (eqb-true type 68 yes)) mldp_leaf_key)
    (λ not_other.
    subst (KeyStart type) (sym (pick-false _ 2 0 (agree_same _ _ (both-true-left _ _ (spans-row type t)) ∙ either-false _ _ not_four not_other))) (keyless (eqb-false type 4 not_four) (eqb-false type 68 not_other))))

fec-starts : (type : ℕ) → KnownType type → FecStart type (pick (has_field fec (body_of type)) (pick (has_field source_as (body_of type)) 14 10) 0)
unfolding spans_test body_of on_body bodies has_field same_kind code_of either pick
fec-starts type t =
    let start : ℕ → ℕ = λ n. pick (has_field fec (body_of n)) (pick (has_field source_as (body_of n)) 14 10) 0 in
    tested (eqb type 67) (λ yes. subst (λ (n : ℕ). FecStart n (start n)) (sym (eqb-true type 67 yes)) s_pmsi_fec)
    (λ not_first.
    tested (eqb type 71) (λ yes. subst (λ (n : ℕ). FecStart n (start n)) (sym (eqb-true type 71 yes)) join_fec)
    (λ not_second.
    subst (FecStart type) (sym (pick-false _ _ 0 (agree_same _ _ (both-true-right _ _ (spans-row type t)) ∙ either-false _ _ not_first not_second))) (fecless (eqb-false type 67 not_first) (eqb-false type 71 not_second))))

-- an address struct tells octets, of which there are at most sixteen
address-told : (octets : List ℕ) → length octets ≤ 16 → AddressTold octets (address_struct octets)
unfolding address_struct
address-told octets h = record { most = h; size = refl; octets = sized-zeros 16 octets h }

-- a field that the type lacks is nothing, and so has no more octets than one that it has
field-most : (most : ℕ) (b : Bool) (octets : List ℕ) → pick b octets [] ≡ octets → (b ≡ true → length octets ≤ most) → length octets ≤ most
unfolding pick
field-most most true octets e h = h refl
field-most most false octets e h = subst (λ (l : List ℕ). length l ≤ most) e (omega arith)

-- the answer where these fields were read
told : (afi : ℕ) (s : List ℕ) (f : Fields) → AllOctets s → read_nlri afi s ≡ given f → NlriTold afi s (nlri_answer (given f))
unfolding nlri_answer on_outcome nlri_struct distinguisher_struct key_span fec_span restricted
told afi s f a e =
    let r = (acceptance.exactly afi s f a).0 e in
    let body : List FieldKind = body_of f.type in
    let small : r.bits ≤ 128 = (family-octets afi r.bits r.of_family).1 in
    let at : (k : FieldKind) → has_field k body ≡ true → WellFormedField (KeyOf r.bits) r.bits f k = λ k h. field-in-body (KeyOf r.bits) r.bits f k body r.well_formed.encodable.body h in
    record {
      fields = f;
      read_as = r;
      type = refl;
      distinguisher = sized-zeros 8 f.distinguisher (field-most 8 _ _ (ap (λ (g : Fields). g.distinguisher) r.whole) (λ h. omega (arith, (at distinguisher h).0)));
      source = address-told f.source (field-most 16 _ _ (ap (λ (g : Fields). g.source) r.whole) (λ h. omega (arith, allowed-most r.bits f.type (8 * length f.source) small (at source h).0)));
      group = address-told f.group (field-most 16 _ _ (ap (λ (g : Fields). g.group) r.whole) (λ h. omega (arith, allowed-most r.bits f.type (8 * length f.group) small (at group h).0)));
      originator = address-told f.originator (field-most 16 _ _ (ap (λ (g : Fields). g.originator) r.whole) (λ h. (originator-sized (length f.originator) (at originator h).0).1));
      source_as = refl;
      key_start = key-starts f.type r.well_formed.encodable.typed;
      key_size = refl;
      key = key-spanned afi s f e;
      fec_start = fec-starts f.type r.well_formed.encodable.typed;
      fec_size = refl;
      fec = fec-spanned afi s f e;
    }

-- no address told
no_address : NoAddress (address_struct [])
unfolding address_struct
no_address = record { octets = sized-zeros 16 [] (omega arith); size = refl }

-- the answer of a refusal
untold : (n : ℕ) → NlriUntold (nlri_answer (refused n))
unfolding nlri_answer on_outcome nlri_struct distinguisher_struct key_span fec_span no_fields body_of on_body bodies has_field pick
untold n =
    record {
      type = refl;
      distinguisher = sized-zeros 8 [] (omega arith);
      source = no_address;
      group = no_address;
      originator = no_address;
      source_as = refl;
      key = (refl, refl);
      fec = (refl, refl);
    }

answer-number : (o : Outcome Fields) → (nlri_answer o).number ≡ number_of o
unfolding nlri_answer on_outcome number_of
answer-number (given f) = refl
answer-number (refused n) = refl

reads : (afi : ℕ) (s : List ℕ) → AllOctets s
    → Answering (nlri_answer (read_nlri afi s)).number (ReadRefusal afi s) (NlriTold afi s (nlri_answer (read_nlri afi s))) (NlriUntold (nlri_answer (read_nlri afi s)))
reads afi s a =
    answering (read_nlri afi s) _ (ReadRefusal afi s) (answer-number (read_nlri afi s)) (λ n. read_refusals.exactly afi s n a) (read_refusals.done afi s) _ _
    (λ f e. subst (λ (o : Outcome Fields). NlriTold afi s (nlri_answer o)) (sym e) (told afi s f a e))
    (λ t. (t.fields, (acceptance.exactly afi s t.fields a).1 t.read_as))
    (λ n e. subst (λ (o : Outcome Fields). NlriUntold (nlri_answer o)) (sym e) (untold n))

-- the address of an argument
address-given : (address : Address) → AddressGiven address (address_octets address)
unfolding address_octets
address-given address = record { size = length-sized address.size address.octets; octets = λ i h. get_or-sized address.size address.octets i h }

struct-given : (nlri : Nlri) (key_octets fec_octets : List ℕ) → NlriGiven nlri key_octets fec_octets (struct_fields nlri key_octets fec_octets)
unfolding struct_fields
struct-given nlri key_octets fec_octets =
    record {
      type = refl;
      distinguisher = refl;
      source = address-given nlri.source;
      group = address-given nlri.group;
      originator = address-given nlri.originator;
      source_as = refl;
      key = refl;
      fec = refl;
    }

writes : (afi : ℕ) (nlri : Nlri) (key_octets fec_octets before : List ℕ) (answer : Written) (after : List ℕ) → StructHoldsOctets nlri → AllOctets key_octets → AllOctets fec_octets
    → Wrote (write_nlri afi (struct_fields nlri key_octets fec_octets) (length before)) before answer after → WriteAnswer afi nlri key_octets fec_octets before answer after
unfolding written_of
writes afi nlri key_octets fec_octets before answer after h k c w =
    let f : Fields = struct_fields nlri key_octets fec_octets in
    let o : Outcome (List ℕ) = write_nlri afi f (length before) in
    let held = held-struct nlri key_octets fec_octets h k c in
    record {
      fields = f;
      argued = struct-given nlri key_octets fec_octets;
      answering =
          answering o answer.number (WriteRefusal afi f (length before)) (ap (λ (x : Written). x.number) w.0) (λ n. write_refusals.exactly afi f (length before) n held)
          (λ why. write-not-done afi f (length before) 0 held why refl) _ _
          (λ e q.
          let r = (write_refusals.accepted afi f (length before) e held).0 q in
          record {
            bits = r.0;
            of_family = r.1;
            well_formed = r.2;
            encoded = (wrote_rule.done _ before answer after (subst (λ (l : List ℕ). length l ≤ length before) r.4 r.3) (subst (λ (x : Outcome (List ℕ)). Wrote x before answer after) (q ∙ ap given r.4) w)).1;
          })
          (λ d. (_, (write_refusals.accepted afi f (length before) _ held).1 (d.bits, d.of_family, d.well_formed, d.encoded.room, refl)))
          (λ n q. (wrote_rule.refuses n before answer after (subst (λ (x : Outcome (List ℕ)). Wrote x before answer after) q w)).1);
    }

pub nlri_answers : NlriAnswers
nlri_answers = record { reads = reads; writes = writes }
