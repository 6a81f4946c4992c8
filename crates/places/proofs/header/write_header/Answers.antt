-- `places::header::write_header` meets its contract: what it places is the header's octets.
use Rattle.std.proofs.Common.{List, ℕ, ◌≡◌, ◌++◌, ap, ◌∙◌}
use lib.Seq.{drop-drop}
use lib.ListN.{take, drop}
use Rattle.std.specs.Int.{w64, to_be_bytes}
use Rattle.octets.specs.Octets.{placed, big_endian}
use Rattle.routes.specs.Table.{header_start, header_of}
use Rattle.places.proofs.header.write_header.Goals as goal

-- the header's start, then two octets, then what stood behind them
written : (afi count : ℕ) (t start octets first last : List ℕ) → start ≡ header_start afi → octets ≡ to_be_bytes w64 count → first ≡ placed 0 start t
    → last ≡ placed 6 (take 2 (drop 6 octets)) first → last ≡ header_of afi count ++ drop 8 t
unfolding placed big_endian header_start header_of
written afi count t start octets first last s o f l = l ∙ rw (f, s, o) (ap (λ (rest : List ℕ). header_of afi count ++ rest) (drop-drop 2 6 t))

pub returns : goal.returns
returns c = written _ _ _ _ _ _ _ c.start_of.ensures c.to_be_bytes.ensures c.place.ensures.1 c.place-2.ensures.1
