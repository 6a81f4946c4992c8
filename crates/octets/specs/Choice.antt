-- A choice by a test, and tests joined. The definitions of every crate choose by these alone.
use Rattle.std.specs.Prelude.{Bool, true, false}

-- the first where the test holds, else the second
unfoldable pub pick : {A : Type 0} → Bool → A → A → A
pick true x y = x
pick false x y = y

-- both tests hold
unfoldable pub both : Bool → Bool → Bool
both true b = b
both false b = false

-- one of the tests holds
unfoldable pub either : Bool → Bool → Bool
either true b = true
either false b = b
