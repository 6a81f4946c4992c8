-- What the listing program prints for every run of AFI 1 (document 01, "Marked examples", the listing; document 02, W-206, W-210), as ASCII octets.
use Rattle.std.specs.Prelude.{ℕ, zero, suc, ◌+◌, ◌/◌, ◌%◌, List, [], ◌∷◌, ◌++◌, get_or, ltb, eqb}
use Rattle.octets.specs.Numbers.{DONE}
use Rattle.octets.specs.Choice.{pick, both}
use Rattle.octets.specs.Order.{same}
use Rattle.runs.specs.Walking.{NlriRead}
use Rattle.runs.specs.Modes.{SKIP, OLD, walk_by, nlris_by}

-- what ends a line
abbrev pub line_feed : ℕ
line_feed = 10

-- what stands between the fields of a line
abbrev pub blank : ℕ
blank = 32

-- the last digit of n
unfoldable pub last_digit : ℕ → ℕ
last_digit n = 48 + n % 10

-- the digits of n, of which there are at most so many
unfoldable pub digits_within : ℕ → ℕ → List ℕ
digits_within zero n = []
digits_within (suc most) n = pick (ltb n 10) (last_digit n ∷ []) (digits_within most (n / 10) ++ (last_digit n ∷ []))

-- n in decimal without padding, the most significant digit first; n has no more than n + 1 digits
unfoldable pub decimal_of : ℕ → List ℕ
decimal_of n = digits_within (suc n) n

-- a number, and the octet that ends its field
unfoldable pub field_of : (number ending : ℕ) → List ℕ
field_of number ending = decimal_of number ++ (ending ∷ [])

-- `MVT list 1`: the header ends in the AFI
unfoldable pub header_line : List ℕ
header_line = 77 ∷ 86 ∷ 84 ∷ 32 ∷ 108 ∷ 105 ∷ 115 ∷ 116 ∷ 32 ∷ 49 ∷ 10 ∷ []

-- offset, type, Length
unfoldable pub line_of : (offset type length_field : ℕ) → List ℕ
line_of offset type length_field = field_of offset blank ++ (field_of type blank ++ field_of length_field line_feed)

-- the line of an NLRI that the walk reads: where it begins, and its type and Length, which are its first octets
abbrev pub nlri_line : NlriRead → List ℕ
nlri_line nlri = line_of nlri.offset (get_or nlri.octets 0 0) (get_or nlri.octets 1 0)

-- a line for each of them
unfoldable pub nlri_lines : List NlriRead → List ℕ
nlri_lines [] = []
nlri_lines (nlri ∷ nlris) = nlri_line nlri ++ nlri_lines nlris

-- `end ` where the number is DONE, else `stop `
unfoldable pub opening_of : ℕ → List ℕ
opening_of number = pick (eqb number DONE) (101 ∷ 110 ∷ 100 ∷ 32 ∷ []) (115 ∷ 116 ∷ 111 ∷ 112 ∷ 32 ∷ [])

-- the last fields: the number, and in the mode that skips how many were skipped
unfoldable pub last_fields : (mode number skipped : ℕ) → List ℕ
last_fields mode number skipped = pick (eqb mode SKIP) (field_of number blank ++ field_of skipped line_feed) (field_of number line_feed)

-- the last line: where and why the walk stops, opened
unfoldable pub last_line : (mode number offset skipped : ℕ) → List ℕ
last_line mode number offset skipped = opening_of number ++ (field_of offset blank ++ last_fields mode number skipped)

-- the lines after the header: a line for each NLRI that the walk of a mode reads, and the last line
unfoldable pub lines_of : (mode : ℕ) → List ℕ → List ℕ
lines_of mode run = nlri_lines (nlris_by 1 mode run) ++ last_line mode (walk_by 1 mode run).number (walk_by 1 mode run).offset (walk_by 1 mode run).skipped

-- all that is printed
unfoldable pub listing_of : (mode : ℕ) → List ℕ → List ℕ
listing_of mode run = header_line ++ lines_of mode run

-- the mode by the program's arguments, of which the first is its own name: how many there are, and the one after the name, `old`
unfoldable pub mode_of : (count : ℕ) (argument : List ℕ) → ℕ
mode_of count argument = pick (both (eqb count 2) (same argument (111 ∷ 108 ∷ 100 ∷ []))) OLD SKIP
