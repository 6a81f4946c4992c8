-- `nlri::address::shorter` meets its contract.
use Rattle.std.proofs.Common.{ℕ, List, ◌++◌, length, drop, replicate, refl, sym, ap, ◌∙◌, rules, take_all}
use Rattle.nlri.proofs.Functions.Copies.{address-held}
use Rattle.nlri.proofs.address.shorter.Goals as goal

pub returns : goal.returns
returns c =
    let xs = c.args.octets.now in
    address-held _ xs _ (ap (λ (l : List ℕ). l ++ drop (length xs) (replicate 16 0)) (c.copy_from_slice.ensures.after ∙ sym (take_all (length xs) xs (search rules)))) refl c.requires
