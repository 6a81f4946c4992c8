-- Definitions that mirror the inner functions of writing; laws tie them to document 01's in `Writing`. An NLRI is written by the family of its type:
-- 1 and 2, those with a source and a group, those with a FEC, those with a key.
use Rattle.std.specs.Prelude.{ℕ, ◌+◌, ◌*◌, ◌≤◌, ◌≡◌, Bool, true, false, List, [], ◌∷◌, ◌++◌, length, ltb, eqb}
use Rattle.octets.specs.Numbers.{DONE, TYPE, WIDTH, KEY, LONG, SPACE, GROUP}
use Rattle.octets.specs.Choice.{pick, both}
use Rattle.octets.specs.Outcome.{Outcome, given, refused, unless, number_of}
use Rattle.octets.specs.Octets.{big_endian}
use Rattle.fec_elements.specs.declared.Standing.TheVariants.{Lent}
use Rattle.fec_elements.specs.Reading.{read_fec}
use Rattle.nlri.specs.declared.fields.Nlri.{Nlri}
use Rattle.nlri.specs.Family.{root_family, allowed, is_originator_size}
use Rattle.nlri.specs.Bodies.{bodies, on_body}
use Rattle.nlri.specs.Fields.{Fields, encode_address, encode_nlri, is_discarded}
use Rattle.nlri.specs.Groups.{is_ssm}
use Rattle.nlri.specs.Writing.{widths_fit, fec_number, is_long, is_key, keys_fit}
use Rattle.nlri.specs.Answers.{address_octets}

-- the order of writing: WIDTH, IDENT and DEEP, LONG, KEY, GROUP, SPACE
unfoldable pub in_order : (space : ℕ) → List ℕ → (widths : Bool) → (number : ℕ) → (long keys discarded : Bool) → Outcome (List ℕ)
in_order space octets widths number long keys discarded =
    unless widths WIDTH
    (unless (eqb number DONE) number
    (pick long (refused LONG)
    (unless keys KEY
    (pick discarded (refused GROUP)
    (pick (ltb space (length octets)) (refused SPACE)
    (given octets))))))

-- the octets written under a family of addresses
unfoldable pub write_under : ℕ → Fields → (space : ℕ) → Outcome (List ℕ)
write_under bits f space =
    on_body bodies f.type (refused TYPE)
    (λ body. in_order space (encode_nlri f) (widths_fit bits f body) (fec_number bits f body) (is_long f body) (keys_fit bits f body) (is_discarded bits f))

-- the whole NLRI: type, Length, body
unfoldable pub framed : ℕ → List ℕ → List ℕ
framed type body = type ∷ length body ∷ body

-- the route distinguisher, with a source AS where the type has one
unfoldable pub front_octets : (numbered : Bool) → Nlri → List ℕ
front_octets numbered nlri = nlri.distinguisher.octets ++ pick numbered (big_endian 4 nlri.source_as) []

-- the octets of it
unfoldable pub front_size : Bool → ℕ
front_size numbered = pick numbered 12 8

-- source and group
unfoldable pub flow_octets : Nlri → List ℕ
flow_octets nlri = encode_address (address_octets nlri.source) ++ encode_address (address_octets nlri.group)

-- the originator, where the type has one
unfoldable pub end_octets : (originated : Bool) → Nlri → List ℕ
end_octets originated nlri = pick originated (address_octets nlri.originator) []

-- the octets of it
unfoldable pub end_size : Bool → (size : ℕ) → ℕ
end_size originated size = pick originated size 0

-- a body without a key: what stands between its ends
unfoldable pub body_with : (numbered originated : Bool) → Nlri → List ℕ → List ℕ
body_with numbered originated nlri between = front_octets numbered nlri ++ (between ++ end_octets originated nlri)

-- a body with a key
unfoldable pub leaf_body : Nlri → List ℕ → List ℕ
leaf_body nlri key = key ++ address_octets nlri.originator

-- an originator has 4 or 16 octets, where the type has one
unfoldable pub originator_fits : Bool → (size : ℕ) → Bool
originator_fits originated size = pick originated (is_originator_size size) true

-- a body with a source and a group
unfoldable pub flow_body : (type : ℕ) → Nlri → List ℕ
flow_body type nlri = body_with (ltb 5 type) (eqb type 3) nlri (flow_octets nlri)

-- the addresses of such a body have lengths that type and family allow
unfoldable pub addresses_fit : (bits type : ℕ) → Nlri → Bool
addresses_fit bits type nlri =
    both (allowed bits type (8 * nlri.source.size)) (both (allowed bits type (8 * nlri.group.size)) (originator_fits (eqb type 3) nlri.originator.size))

-- types 1 and 2, written
unfoldable pub i_pmsi_written : (type : ℕ) → Nlri → (space : ℕ) → Outcome (List ℕ)
i_pmsi_written type nlri space =
    in_order space (framed type (body_with (eqb type 2) (eqb type 1) nlri [])) (originator_fits (eqb type 1) nlri.originator.size) DONE false true false

-- types with a source and a group, written
unfoldable pub flow_written : (bits type : ℕ) → Nlri → (space : ℕ) → Outcome (List ℕ)
flow_written bits type nlri space =
    in_order space (framed type (flow_body type nlri)) (addresses_fit bits type nlri) DONE false true (both (eqb type 5) (is_ssm bits (address_octets nlri.group)))

-- types with a FEC, written
unfoldable pub fec_written : (bits type : ℕ) → Nlri → (fec : List ℕ) → (space : ℕ) → Outcome (List ℕ)
fec_written bits type nlri fec space =
    let body : List ℕ = body_with (eqb type 71) (eqb type 67) nlri fec in
    in_order space (framed type body) (originator_fits (eqb type 67) nlri.originator.size) (number_of (read_fec (Lent (root_family bits)) fec)) (ltb 255 (length body)) true false

-- types with a key, written; of type 4 no body is long
unfoldable pub leaf_written : (bits type : ℕ) → Nlri → (key : List ℕ) → (space : ℕ) → Outcome (List ℕ)
leaf_written bits type nlri key space =
    let body : List ℕ = leaf_body nlri key in
    in_order space (framed type body) (is_originator_size nlri.originator.size) DONE (both (ltb 7 type) (ltb 255 (length body))) (is_key bits type key) false

-- a wildcard's size, IPv4's or IPv6's
abbrev pub AddressSize : ℕ → Type 0
AddressSize size = (size ≤ 16) × ((size ≡ 4 → ⊥) → (size ≡ 16 → ⊥) → size ≡ 0)

-- a body of so many octets that fits its Length octet and, with the header, the output
pub record Putting (body : List ℕ) (size : ℕ) (output : List ℕ) : Type 0 where
  pub exact : size ≡ length body
  pub short : size ≤ 255
  pub room : 2 + size ≤ length output
