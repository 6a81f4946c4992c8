-- Writing an NLRI (document 01, the order of NLRI writing; document 02, W-207, W-210): FAMILY, TYPE, WIDTH, IDENT and DEEP, LONG, KEY, GROUP, SPACE. GROUP is
-- of type 5, which has no number between it and WIDTH. Only fields of the type's body are looked at.
use Rattle.std.specs.Prelude.{ℕ, ◌*◌, Bool, true, false, List, [], ◌∷◌, length, ◌==◌, nat_eq, nat_lt}
use Rattle.octets.specs.Numbers.{DONE, TYPE, WIDTH, KEY, LONG, SPACE, GROUP}
use Rattle.octets.specs.Choice.{pick, both}
use Rattle.octets.specs.Outcome.{Outcome, given, refused, on_outcome, unless, and_then, number_of}
use Rattle.fec_elements.specs.declared.Standing.TheVariants.{Lent}
use Rattle.fec_elements.specs.Reading.{read_fec}
use Rattle.nlri.specs.Family.{family_bits, root_family, allowed, is_originator_size}
use Rattle.nlri.specs.Bodies.{FieldKind, distinguisher, source_as, source, group, originator, key, fec, bodies, on_body, has_field}
use Rattle.nlri.specs.Fields.{Fields, encode_body, encode_nlri, is_discarded}
use Rattle.nlri.specs.Reading.{key_field}

-- an address of a length that the type and family allow; an originator of 4 or 16 octets
unfoldable pub width_fits : ℕ → Fields → FieldKind → Bool
width_fits bits f distinguisher = true
width_fits bits f source_as = true
width_fits bits f source = allowed bits f.type (8 * length f.source)
width_fits bits f group = allowed bits f.type (8 * length f.group)
width_fits bits f originator = is_originator_size (length f.originator)
width_fits bits f key = true
width_fits bits f fec = true

-- every address of a body fits
unfoldable pub widths_fit : ℕ → Fields → List FieldKind → Bool
widths_fit bits f [] = true
widths_fit bits f (k ∷ body) = both (width_fits bits f k) (widths_fit bits f body)

-- the number of a body's FEC, whose octets must be exactly one; DONE where the body has none
unfoldable pub fec_number : ℕ → Fields → List FieldKind → ℕ
fec_number bits f body = pick (has_field fec body) (number_of (read_fec (Lent (root_family bits)) f.fec)) DONE

-- a body over 255 octets, of a type of RFC 7441
unfoldable pub is_long : Fields → List FieldKind → Bool
is_long f body = both (nat_lt 7 f.type) (nat_lt 255 (length (encode_body f body)))

-- octets that are exactly one key of a type
unfoldable pub is_key : (bits type : ℕ) → List ℕ → Bool
is_key bits type octets = on_outcome (λ fault. false) (λ size. nat_eq size (length octets)) (key_field bits type octets)

-- a field that is a key holds exactly one key
unfoldable pub key_fits : ℕ → Fields → FieldKind → Bool
key_fits bits f distinguisher = true
key_fits bits f source_as = true
key_fits bits f source = true
key_fits bits f group = true
key_fits bits f originator = true
key_fits bits f key = is_key bits f.type f.key
key_fits bits f fec = true

-- every key of a body fits
unfoldable pub keys_fit : ℕ → Fields → List FieldKind → Bool
keys_fit bits f [] = true
keys_fit bits f (k ∷ body) = both (key_fits bits f k) (keys_fit bits f body)

-- the octets written at the front of an output of so many octets
unfoldable pub write_nlri : ℕ → Fields → (space : ℕ) → Outcome (List ℕ)
write_nlri afi f space =
    and_then (family_bits afi)
    (λ bits. on_body bodies f.type (refused TYPE)
    (λ body. unless (widths_fit bits f body) WIDTH
    (unless (fec_number bits f body == DONE) (fec_number bits f body)
    (pick (is_long f body) (refused LONG)
    (unless (keys_fit bits f body) KEY
    (pick (is_discarded bits f) (refused GROUP)
    (pick (nat_lt space (length (encode_nlri f))) (refused SPACE)
    (given (encode_nlri f)))))))))
