-- `places::sound::are_places_sound` meets its contract.
use mathlib.Core.Path.{ap, ◌∙◌}
use native.Mathlib.Omega.{arith}
use lib.ListN.{length}
use Rattle.octets.proofs.Lists.{length_part}
use Rattle.places.proofs.Sounds.{passing-first, passing-unsound, passing-nlri, passing-unordered, passing-next, passing-ends}
use borrow.Author.Rules.{rules}
use Rattle.places.proofs.sound.are_places_sound.Goals as goal

pub loop-at-init : goal.loop-at-init
loop-at-init c = passing-first _ _ _

pub is_place_sound-requires : goal.is_place_sound-requires
is_place_sound-requires c = ap length c.between.ensures ∙ length_part _ c.loop-at.at 128 (search rules)

pub returns-then-not-is_place_sound : goal.returns-then-not-is_place_sound
returns-then-not-is_place_sound c = passing-unsound _ _ _ _ (search rules) c.loop-at.invariant (search rules) _ _ c.between.ensures c.is_place_sound.ensures c.if-not-is_place_sound.true

pub follows-requires : goal.follows-requires
follows-requires c =
    let n = passing-nlri _ _ _ _ (search rules) c.loop-at.invariant (search rules) _ _ c.between.ensures c.is_place_sound.ensures c.if-not-is_place_sound.false in
    (n.within, omega (arith, n.least), n.most)

pub returns-then-not-follows : goal.returns-then-not-follows
returns-then-not-follows c =
    passing-unordered _ _ _ _ (search rules) c.loop-at.invariant (search rules) _ _ c.between.ensures c.is_place_sound.ensures c.if-not-is_place_sound.false _ c.follows.ensures c.if-not-follows.true

pub loop-at-preserved : goal.loop-at-preserved
loop-at-preserved c =
    passing-next _ _ _ _ (search rules) c.loop-at.invariant (search rules) _ _ c.between.ensures c.is_place_sound.ensures c.if-not-is_place_sound.false _ c.follows.ensures c.if-not-follows.false

pub returns : goal.returns
returns c = passing-ends _ _ _ _ (search rules) c.loop-at.invariant (search rules) _ c.is_rest_zero.ensures
