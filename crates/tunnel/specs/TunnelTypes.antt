-- The tunnel types by name.
use Rattle.std.specs.Prelude.{ℕ, ◌≡◌, Bool, true, false, Result, MatchResult}
use Rattle.octets.specs.Numbers.{TUNNEL}
use Rattle.octets.specs.Outcome.{refused}
use Rattle.octets.specs.declared.refusal.Refusal.{Refusal}
use Rattle.octets.specs.declared.refusal.Refusal.TheVariants.{Tunnel}
use Rattle.tunnel.specs.declared.tunnel_type.TunnelType.{TunnelType}
use Rattle.tunnel.specs.declared.tunnel_type.TunnelType.TheVariants.{NoTunnel, RsvpTeP2mp, MldpP2mp, PimSsm, PimSm, BidirPim, IngressReplication, MldpMp2mp, Bier}
use Rattle.tunnel.specs.Identifier.{form_of}

-- the octet of each
abbrev pub tunnel_type_octet : TunnelType → ℕ
tunnel_type_octet NoTunnel = 0
tunnel_type_octet RsvpTeP2mp = 1
tunnel_type_octet MldpP2mp = 2
tunnel_type_octet PimSsm = 3
tunnel_type_octet PimSm = 4
tunnel_type_octet BidirPim = 5
tunnel_type_octet IngressReplication = 6
tunnel_type_octet MldpMp2mp = 7
tunnel_type_octet Bier = 11

-- those whose identifiers are FECs
abbrev pub is_mldp : TunnelType → Bool
is_mldp NoTunnel = false
is_mldp RsvpTeP2mp = false
is_mldp MldpP2mp = true
is_mldp PimSsm = false
is_mldp PimSm = false
is_mldp BidirPim = false
is_mldp IngressReplication = false
is_mldp MldpMp2mp = true
is_mldp Bier = false

-- the type of an octet; TUNNEL where document 01's table has none
abbrev pub IsTypeOf : ℕ → Result TunnelType Refusal → Type 0
IsTypeOf octet found = MatchResult found (λ t. tunnel_type_octet t ≡ octet) (λ refusal. (refusal ≡ Tunnel) × (form_of octet ≡ refused TUNNEL))
