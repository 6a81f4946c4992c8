-- `nlri::mldp::fec_layout` meets its contract.
use Rattle.std.proofs.Common.{◌≡◌, ℕ, List, ◌+◌, ◌-◌, get_or, ap, ◌∙◌, ap₂, arith}
use Rattle.octets.specs.Octets.{part}
use Rattle.fec_elements.specs.Reading.{fec_size}
use Rattle.nlri.specs.Inner.{fec_start, layout_with, from_fec, fec_layout}
use Rattle.nlri.proofs.mldp.fec_layout.Goals as goal

-- the octets from the FEC on, and the size of the FEC that stands there
module _ (route_type a b : ℕ) (s x : List ℕ) (is : x ≡ part s b (2 + get_or s 1 0 - a)) (at : a ≡ fec_start route_type) (start : b ≡ fec_start route_type) where
  from-there : x ≡ from_fec route_type s
  unfolding from_fec
  from-there = is ∙ ap₂ (part s) start (ap (λ (n : ℕ). 2 + get_or s 1 0 - n) at)

  sized-there : (n : ℕ) → n ≡ fec_size x → n ≡ fec_size (from_fec route_type s)
  sized-there n e = e ∙ ap fec_size from-there

pub fec_size-fec-requires : goal.fec_size-fec-requires
fec_size-fec-requires c = rw (from-there _ _ _ _ _ c.between.ensures c.fec_start.ensures c.fec_start-2.ensures) c.requires.opaque

pub overflow_sub-result : goal.overflow_sub-result
overflow_sub-result c = omega (arith, sized-there _ _ _ _ _ c.between.ensures c.fec_start.ensures c.fec_start-2.ensures _ c.fec_size-fec.ensures, c.fec_start.ensures, c.requires.sizes)

pub returns : goal.returns
unfolding fec_layout layout_with
returns c =
    let s = c.args.s.now in
    let sized : c.fec_size-fec.result ≡ fec_size (from_fec c.args.route_type s) = sized-there _ _ _ _ _ c.between.ensures c.fec_start.ensures c.fec_start-2.ensures _ c.fec_size-fec.ensures in
    λ i. record {
      route_type = c.args.route_type;
      length = get_or s 1 0;
      source = 0;
      group = 0;
      originator = ap₂ (λ (a b : ℕ). 2 + get_or s 1 0 - a - b) c.fec_start.ensures sized i;
      key = 0;
      fec = sized i;
    }
