-- `places::judge::check_label` meets its contract.
use mathlib.Core.Path.{refl, sym}
use native.Mathlib.Omega.{arith}
use Rattle.tunnel.proofs.Definitions.Attributes.{read-tests}
use Rattle.places.proofs.Sounds.{attribute-unlabelled, attribute-labelled, attribute-other}
use Rattle.places.proofs.judge.check_label.Goals as goal

pub bounds-attribute-1 : goal.bounds-attribute-1
bounds-attribute-1 c = omega (arith, (read-tests _ _ (sym c.requires) refl).0)

pub returns-then-attribute : goal.returns-then-attribute
returns-then-attribute c = attribute-other _ _ (sym c.requires) refl c.if-attribute.true

pub three-requires : goal.three-requires
three-requires c = omega (arith, (read-tests _ _ (sym c.requires) refl).0)

pub returns-then-three-ne0 : goal.returns-then-three-ne0
returns-then-three-ne0 c = attribute-labelled _ _ (sym c.requires) refl c.if-attribute.false _ c.three.ensures.value c.if-three-ne0.true

pub returns : goal.returns
returns c = attribute-unlabelled _ _ (sym c.requires) refl c.if-attribute.false _ c.three.ensures.value c.if-three-ne0.false
