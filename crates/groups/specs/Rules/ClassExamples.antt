-- The class of a group with prefixes, by examples in literal octets. Proved in proofs/ClassExamples.antt.
use Rattle.std.specs.Prelude.{ℕ, ◌≡◌, List, [], ◌∷◌, ◌++◌}
use Rattle.octets.specs.Numbers.{SHORT, FLOW, RANGE}
use Rattle.octets.specs.Outcome.{given, refused}
use Rattle.groups.specs.Classes.{class_by}

-- a prefix in a list: the size of its field in two octets, its length, its address
abbrev pub prefix4 : (bits a b c d : ℕ) → List ℕ
prefix4 bits a b c d = 0 ∷ 5 ∷ bits ∷ a ∷ b ∷ c ∷ d ∷ []

-- of IPv6, with zeros behind four octets
abbrev pub prefix6 : (bits a b c d : ℕ) → List ℕ
prefix6 bits a b c d = 0 ∷ 17 ∷ bits ∷ a ∷ b ∷ c ∷ d ∷ 0 ∷ 0 ∷ 0 ∷ 0 ∷ 0 ∷ 0 ∷ 0 ∷ 0 ∷ 0 ∷ 0 ∷ 0 ∷ 0 ∷ []

-- ASM is 1, SSM is 2
pub record ClassExamples : Type 0 where
  -- 239.232.0.0/16 given: its groups are SSM, and those of the standard range are not
  pub held : class_by 1 (0 ∷ 1 ∷ prefix4 16 239 232 0 0) (239 ∷ 232 ∷ 1 ∷ 1 ∷ []) ≡ given 2
  pub replaced : class_by 1 (0 ∷ 1 ∷ prefix4 16 239 232 0 0) (232 ∷ 1 ∷ 1 ∷ 1 ∷ []) ≡ given 1
  -- a length of 0 holds every group, and makes none multicast
  pub every : class_by 1 (0 ∷ 1 ∷ prefix4 0 0 0 0 0) (224 ∷ 0 ∷ 0 ∷ 1 ∷ []) ≡ given 2
  pub unicast : class_by 1 (0 ∷ 1 ∷ prefix4 0 0 0 0 0) (192 ∷ 0 ∷ 2 ∷ 1 ∷ []) ≡ refused FLOW
  -- the first bit is the most significant one: 128.0.0.0/1, and 0.0.0.0/1
  pub high : class_by 1 (0 ∷ 1 ∷ prefix4 1 128 0 0 0) (232 ∷ 1 ∷ 1 ∷ 1 ∷ []) ≡ given 2
  pub low : class_by 1 (0 ∷ 1 ∷ prefix4 1 0 0 0 0) (232 ∷ 1 ∷ 1 ∷ 1 ∷ []) ≡ given 1
  -- 239.1.0.0/16 and 239.0.0.0/8, which overlap: a group of both, and one of the second alone
  pub overlapping : class_by 1 (0 ∷ 2 ∷ prefix4 16 239 1 0 0 ++ prefix4 8 239 0 0 0) (239 ∷ 1 ∷ 1 ∷ 1 ∷ []) ≡ given 2
  pub second : class_by 1 (0 ∷ 2 ∷ prefix4 16 239 1 0 0 ++ prefix4 8 239 0 0 0) (239 ∷ 2 ∷ 1 ∷ 1 ∷ []) ≡ given 2
  -- nine, though the list ends before them; eight
  pub nine : class_by 1 (0 ∷ 9 ∷ []) (239 ∷ 1 ∷ 1 ∷ 1 ∷ []) ≡ refused RANGE
  pub eight : class_by 1 (0 ∷ 8 ∷ []) (239 ∷ 1 ∷ 1 ∷ 1 ∷ []) ≡ refused SHORT
  -- a bit set past the length: the first, and the last, though the group is not multicast; behind a prefix that holds the group
  pub next : class_by 1 (0 ∷ 1 ∷ prefix4 15 239 1 0 0) (239 ∷ 1 ∷ 1 ∷ 1 ∷ []) ≡ refused RANGE
  pub last : class_by 1 (0 ∷ 1 ∷ prefix4 16 239 1 0 1) (192 ∷ 0 ∷ 2 ∷ 1 ∷ []) ≡ refused RANGE
  pub later : class_by 1 (0 ∷ 2 ∷ prefix4 8 239 0 0 0 ++ prefix4 16 239 1 0 1) (239 ∷ 1 ∷ 1 ∷ 1 ∷ []) ≡ refused RANGE
  -- a length of 32, and of 33
  pub most : class_by 1 (0 ∷ 1 ∷ prefix4 32 239 1 1 1) (239 ∷ 1 ∷ 1 ∷ 1 ∷ []) ≡ given 2
  pub over : class_by 1 (0 ∷ 1 ∷ prefix4 33 239 1 1 1) (239 ∷ 1 ∷ 1 ∷ 1 ∷ []) ≡ refused RANGE
  -- an address of the other family, and no octet at all
  pub other_size : class_by 1 (0 ∷ 1 ∷ prefix6 8 255 0 0 0) (239 ∷ 1 ∷ 1 ∷ 1 ∷ []) ≡ refused RANGE
  pub empty : class_by 1 (0 ∷ 1 ∷ 0 ∷ 0 ∷ []) (239 ∷ 1 ∷ 1 ∷ 1 ∷ []) ≡ refused RANGE
  -- FF3E:1::/32 given: FF3E:1::1, and FF3E::1, which is of the standard range
  pub held6 : class_by 2 (0 ∷ 1 ∷ prefix6 32 255 62 0 1) (255 ∷ 62 ∷ 0 ∷ 1 ∷ 0 ∷ 0 ∷ 0 ∷ 0 ∷ 0 ∷ 0 ∷ 0 ∷ 0 ∷ 0 ∷ 0 ∷ 0 ∷ 1 ∷ []) ≡ given 2
  pub replaced6 : class_by 2 (0 ∷ 1 ∷ prefix6 32 255 62 0 1) (255 ∷ 62 ∷ 0 ∷ 0 ∷ 0 ∷ 0 ∷ 0 ∷ 0 ∷ 0 ∷ 0 ∷ 0 ∷ 0 ∷ 0 ∷ 0 ∷ 0 ∷ 1 ∷ []) ≡ given 1
