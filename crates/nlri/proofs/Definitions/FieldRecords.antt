-- Equal fields, one by one.
use Rattle.std.proofs.Common.{◌≡◌}
use Rattle.nlri.specs.Fields.{Fields}

pub fields-same : {f g : Fields} → f.type ≡ g.type → f.distinguisher ≡ g.distinguisher → f.source_as ≡ g.source_as → f.source ≡ g.source → f.group ≡ g.group → f.originator ≡ g.originator
    → f.key ≡ g.key → f.fec ≡ g.fec → f ≡ g
fields-same t d a s g o k c = λ i. record { type = t i; distinguisher = d i; source_as = a i; source = s i; group = g i; originator = o i; key = k i; fec = c i }
