-- Why a call refuses: the number of each refusal, each as a numeral, and that a judgement's number tells which judgement it is. Proved in
-- proofs/RefusalsRule.antt.
use Rattle.std.specs.Prelude.{◌≡◌, Result}
use Rattle.octets.specs.declared.refusal.Refusal.{Refusal}
use Rattle.octets.specs.declared.refusal.Refusal.TheVariants.{Short, «Type», Length, Width, Key, Tunnel, Ident, Long, Label, Family, Table, Kind, Room, Absent, Flow, Space, Deep, Range, Group, Conflict}
use Rattle.octets.specs.Refusals.{refusal_number, result_number}

-- the number of each refusal
pub record RefusalsRule : Type 0 where
  pub short : refusal_number Short ≡ 1
  pub type : refusal_number «Type» ≡ 2
  pub length : refusal_number Length ≡ 3
  pub width : refusal_number Width ≡ 4
  pub key : refusal_number Key ≡ 5
  pub tunnel : refusal_number Tunnel ≡ 6
  pub ident : refusal_number Ident ≡ 7
  pub long : refusal_number Long ≡ 8
  pub label : refusal_number Label ≡ 9
  pub family : refusal_number Family ≡ 10
  pub table : refusal_number Table ≡ 11
  pub kind : refusal_number Kind ≡ 12
  pub room : refusal_number Room ≡ 13
  pub absent : refusal_number Absent ≡ 14
  pub flow : refusal_number Flow ≡ 15
  pub space : refusal_number Space ≡ 16
  pub deep : refusal_number Deep ≡ 17
  pub range : refusal_number Range ≡ 18
  pub group : refusal_number Group ≡ 19
  pub conflict : refusal_number Conflict ≡ 20
  -- judgements of the same number are equal
  pub apart : (a b : Result (Unit {0}) Refusal) → result_number a ≡ result_number b → a ≡ b
