-- Document 01's numbers, and those that requests have added, each as a numeral. Proved in proofs/NumbersRule.antt.
use Rattle.std.specs.Prelude.{◌≡◌}
use Rattle.octets.specs.Numbers.{DONE, SHORT, TYPE, LENGTH, WIDTH, KEY, TUNNEL, IDENT, LONG, LABEL, FAMILY, TABLE, KIND, ROOM, ABSENT, FLOW, SPACE, DEEP, RANGE, GROUP, CONFLICT}

-- the number of each name
pub record NumbersRule : Type 0 where
  pub done : DONE ≡ 0
  pub short : SHORT ≡ 1
  pub type : TYPE ≡ 2
  pub length : LENGTH ≡ 3
  pub width : WIDTH ≡ 4
  pub key : KEY ≡ 5
  pub tunnel : TUNNEL ≡ 6
  pub ident : IDENT ≡ 7
  pub long : LONG ≡ 8
  pub label : LABEL ≡ 9
  pub family : FAMILY ≡ 10
  pub table : TABLE ≡ 11
  pub kind : KIND ≡ 12
  pub room : ROOM ≡ 13
  pub absent : ABSENT ≡ 14
  pub flow : FLOW ≡ 15
  pub space : SPACE ≡ 16
  pub deep : DEEP ≡ 17
  pub range : RANGE ≡ 18
  pub group : GROUP ≡ 19
  pub conflict : CONFLICT ≡ 20
