-- What a caller sees of the answers of reading and of writing, from the call's own arguments (document 01, "The numbers a call gives back";
-- W-207, W-210). Stated here, proved in proofs/Statements/AnswerRules.antt.
use Rattle.std.specs.Prelude.{◌≡◌, ℕ, ◌-◌, ◌<◌, ◌≤◌, ◌≢◌, List, ◌++◌, length, slice_index}
use Rattle.octets.specs.Outcome.{given}
use Rattle.octets.specs.Octets.{AllOctets, part}
use Rattle.octets.specs.Order.{zeros}
use Rattle.octets.specs.Outputs.{Wrote}
use Rattle.octets.specs.Rules.Answering.{Answering, WrittenAtFront, NothingWritten}
use Rattle.octets.specs.declared.Written.{Written}
use Rattle.nlri.specs.declared.address.Address.{Address}
use Rattle.nlri.specs.declared.fields.Nlri.{Nlri}
use Rattle.nlri.specs.declared.fields.NlriReading.{NlriReading}
use Rattle.nlri.specs.Family.{family_bits}
use Rattle.nlri.specs.Fields.{Fields, encode_nlri, WellFormed}
use Rattle.nlri.specs.Reading.{read_nlri}
use Rattle.nlri.specs.Writing.{write_nlri}
use Rattle.nlri.specs.Answers.{struct_fields, nlri_answer}
use Rattle.nlri.specs.Rules.NlriRules.{ReadAs, StructHoldsOctets, ReadRefusal, WriteRefusal}

-- an address in an answer: how many octets it has, and these octets with zeros to the end of the sixteen
pub record AddressTold (told : List ℕ) (address : Address) : Type 0 where
  pub most : length told ≤ 16
  pub size : address.size ≡ length told
  pub octets : address.octets ≡ told ++ zeros (16 - length told)

-- where a key starts: straight after the header in a Leaf of either kind; 0 in any other type
pub data KeyStart : (type start : ℕ) → Type 0 where
  leaf_key : KeyStart 4 2
  mldp_leaf_key : KeyStart 68 2
  keyless : {type : ℕ} → type ≢ 4 → type ≢ 68 → KeyStart type 0

-- where a FEC starts: behind the route distinguisher in 0x43, behind the source AS in 0x47; 0 in any other type
pub data FecStart : (type start : ℕ) → Type 0 where
  s_pmsi_fec : FecStart 67 10
  join_fec : FecStart 71 14
  fecless : {type : ℕ} → type ≢ 67 → type ≢ 71 → FecStart type 0

-- an NLRI told: the octets are the encoding of well-formed fields, and each field of the answer is that of these fields
pub record NlriTold (afi : ℕ) (s : List ℕ) (answer : NlriReading) : Type 0 where
  pub fields : Fields
  pub read_as : ReadAs afi s fields
  pub type : answer.nlri.route_type ≡ fields.type
  -- eight octets, zeros where the type has no route distinguisher
  pub distinguisher : answer.nlri.distinguisher.octets ≡ fields.distinguisher ++ zeros (8 - length fields.distinguisher)
  pub source : AddressTold fields.source answer.nlri.source
  pub group : AddressTold fields.group answer.nlri.group
  pub originator : AddressTold fields.originator answer.nlri.originator
  pub source_as : answer.nlri.source_as ≡ fields.source_as
  -- the spans of key and FEC in the octets read
  pub key_start : KeyStart fields.type answer.key.start
  pub key_size : answer.key.size ≡ length fields.key
  pub key : part s answer.key.start answer.key.size ≡ fields.key
  pub fec_start : FecStart fields.type answer.fec.start
  pub fec_size : answer.fec.size ≡ length fields.fec
  pub fec : part s answer.fec.start answer.fec.size ≡ fields.fec

-- no address: all 0
pub record NoAddress (address : Address) : Type 0 where
  pub octets : address.octets ≡ zeros 16
  pub size : address.size ≡ 0

-- no NLRI told: every field but the number is 0
pub record NlriUntold (answer : NlriReading) : Type 0 where
  pub type : answer.nlri.route_type ≡ 0
  pub distinguisher : answer.nlri.distinguisher.octets ≡ zeros 8
  pub source : NoAddress answer.nlri.source
  pub group : NoAddress answer.nlri.group
  pub originator : NoAddress answer.nlri.originator
  pub source_as : answer.nlri.source_as ≡ 0
  pub key : (answer.key.start ≡ 0) × (answer.key.size ≡ 0)
  pub fec : (answer.fec.start ≡ 0) × (answer.fec.size ≡ 0)

-- an address in an argument: as many octets as its size says, those of its array, and zeros past the sixteen
pub record AddressGiven (address : Address) (argued : List ℕ) : Type 0 where
  pub size : length argued ≡ address.size
  pub octets : (i : ℕ) → i < address.size → slice_index argued i ≡ slice_index address.octets i

-- the fields that a writer's arguments give: a struct, and the octets of key and FEC
pub record NlriGiven (nlri : Nlri) (key_octets fec_octets : List ℕ) (f : Fields) : Type 0 where
  pub type : f.type ≡ nlri.route_type
  pub distinguisher : f.distinguisher ≡ nlri.distinguisher.octets
  pub source : AddressGiven nlri.source f.source
  pub group : AddressGiven nlri.group f.group
  pub originator : AddressGiven nlri.originator f.originator
  pub source_as : f.source_as ≡ nlri.source_as
  pub key : f.key ≡ key_octets
  pub fec : f.fec ≡ fec_octets

-- an NLRI written: well-formed fields of the AFI's family, their encoding at the front of the output
pub record NlriWritten (afi : ℕ) (f : Fields) (before : List ℕ) (answer : Written) (after : List ℕ) : Type 0 where
  pub bits : ℕ
  pub of_family : family_bits afi ≡ given bits
  pub well_formed : WellFormed bits f
  pub encoded : WrittenAtFront (encode_nlri f) before answer after

-- the call of writing, by its arguments' fields
pub record WriteAnswer (afi : ℕ) (nlri : Nlri) (key_octets fec_octets before : List ℕ) (answer : Written) (after : List ℕ) : Type 0 where
  pub fields : Fields
  pub argued : NlriGiven nlri key_octets fec_octets fields
  pub answering : Answering answer.number (WriteRefusal afi fields (length before)) (NlriWritten afi fields before answer after) (NothingWritten before answer after)

-- the answers, as the contracts have them
pub record NlriAnswers : Type 0 where
  -- reading a single NLRI
  pub reads : (afi : ℕ) (s : List ℕ) → AllOctets s
      → Answering (nlri_answer (read_nlri afi s)).number (ReadRefusal afi s) (NlriTold afi s (nlri_answer (read_nlri afi s))) (NlriUntold (nlri_answer (read_nlri afi s)))
  -- writing one: whatever answer and output its contract allows, of arguments that hold octets
  pub writes : (afi : ℕ) (nlri : Nlri) (key_octets fec_octets before : List ℕ) (answer : Written) (after : List ℕ) → StructHoldsOctets nlri → AllOctets key_octets → AllOctets fec_octets
      → Wrote (write_nlri afi (struct_fields nlri key_octets fec_octets) (length before)) before answer after → WriteAnswer afi nlri key_octets fec_octets before answer after
