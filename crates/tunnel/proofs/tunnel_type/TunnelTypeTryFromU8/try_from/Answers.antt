-- `tunnel::tunnel_type::TunnelType::try_from` meets its contract: the octets left over are those that the table lacks.
use Rattle.std.proofs.Common.{refl, arith}
use Rattle.tunnel.proofs.Definitions.Identifiers.{form-unknown}
use Rattle.tunnel.proofs.tunnel_type.TunnelTypeTryFromU8.try_from.Goals as goal

pub returns-in_default : goal.returns-in_default
returns-in_default c = (refl, form-unknown _ (record { over = omega arith; not_bier = omega arith }))
