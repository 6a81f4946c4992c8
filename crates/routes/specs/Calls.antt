-- The calls on a table's octets (document 01, "The numbers a call gives back", "The table memory", "Which route a flow takes"): what
-- each answers, and the lent octets afterwards. A refusal leaves them as they were.
use Rattle.std.specs.Prelude.{ℕ, List, [], length, ltb}
use Rattle.octets.specs.Numbers.{TABLE, ROOM, ABSENT}
use Rattle.octets.specs.Choice.{pick}
use Rattle.octets.specs.Outcome.{Outcome, given, on_outcome, unless, and_then, number_of}
use Rattle.nlri.specs.Family.{family_bits}
use Rattle.routes.specs.declared.Installed.{Installed}
use Rattle.routes.specs.declared.Matched.{Matched}
use Rattle.routes.specs.declared.Restarted.{Restarted}
use Rattle.routes.specs.Route.{Route, route, nlri_of, holds, inserted, removed}
use Rattle.routes.specs.Arguments.{read_s_pmsi, read_route}
use Rattle.routes.specs.Asked.{Asked, read_asked}
use Rattle.routes.specs.Table.{image_of, afi_in, places_in, routes_of, table_size, sound_of}
use Rattle.routes.specs.Matching.{Found, match_in}
use Rattle.routes.specs.Restart.{RestartCall, marking, sweeping, renewed, gone_of, read_router}
use Rattle.octets.specs.Outputs.{Changed}
use Rattle.routes.specs.Answers.{NEW, REPLACED, installed_of, restarted_of, matched_by}

-- making a table: FAMILY, TABLE; then every octet is written
unfoldable pub make_outcome : ℕ → List ℕ → Outcome (List ℕ)
make_outcome afi memory = and_then (family_bits afi) (λ bits. unless (table_size (length memory)) TABLE (given (image_of afi (places_in memory) [])))

-- the number, and the memory afterwards
unfoldable pub make_of : ℕ → List ℕ → Changed ℕ
make_of afi memory = record { answer = number_of (make_outcome afi memory); octets = on_outcome (λ number. memory) (λ octets. octets) (make_outcome afi memory) }

-- a route that is acceptable: "replaced" where its NLRI is held, else ROOM where every place is taken, else "new"
unfoldable pub entering : (places : ℕ) → List Route → Route → Outcome ℕ
entering places rs r = pick (holds (nlri_of r) rs) (given REPLACED) (unless (ltb (length rs) places) ROOM (given NEW))

-- install: TABLE, then its arguments, then ROOM
unfoldable pub install_outcome : (table nlri attribute : List ℕ) → Outcome ℕ
install_outcome t nlri attribute = unless (sound_of t) TABLE (and_then (read_route (afi_in t) nlri attribute) (λ r. entering (places_in t) (routes_of t) r))

-- the answer, and the table afterwards: the image of its routes with this one
unfoldable pub install_of : (table nlri attribute : List ℕ) → Changed Installed
install_of t nlri attribute =
    record {
      answer = installed_of (install_outcome t nlri attribute);
      octets = on_outcome (λ number. t) (λ o. image_of (afi_in t) (places_in t) (inserted (route nlri attribute) (routes_of t))) (install_outcome t nlri attribute);
    }

-- an NLRI that is held, or ABSENT
unfoldable pub leaving : List Route → List ℕ → Outcome (List ℕ)
leaving rs nlri = unless (holds nlri rs) ABSENT (given nlri)

-- withdraw: TABLE, then its argument, then ABSENT
unfoldable pub withdraw_outcome : (table nlri : List ℕ) → Outcome (List ℕ)
withdraw_outcome t nlri = unless (sound_of t) TABLE (and_then (read_s_pmsi (afi_in t) nlri) (λ f. leaving (routes_of t) nlri))

-- the number, and the table afterwards: the image of its routes without this one
unfoldable pub withdraw_of : (table nlri : List ℕ) → Changed ℕ
withdraw_of t nlri =
    record {
      answer = number_of (withdraw_outcome t nlri);
      octets = on_outcome (λ number. t) (λ n. image_of (afi_in t) (places_in t) (removed n (routes_of t))) (withdraw_outcome t nlri);
    }

-- mark and sweep: TABLE, then FLOW; how many went
unfoldable pub restart_outcome : (table router : List ℕ) → Outcome ℕ
restart_outcome t router = unless (sound_of t) TABLE (and_then (read_router router) (λ named. given (gone_of (afi_in t) named (routes_of t))))

-- the answer, and the table afterwards
unfoldable pub restart_of : RestartCall → (table router : List ℕ) → Changed Restarted
restart_of which t router =
    record {
      answer = restarted_of (restart_outcome t router);
      octets = on_outcome (λ number. t) (λ gone. image_of (afi_in t) (places_in t) (renewed (afi_in t) which router (routes_of t))) (restart_outcome t router);
    }

-- a router's routes marked stale; those already marked go
abbrev pub mark_of : (table router : List ℕ) → Changed Restarted
mark_of t router = restart_of marking t router

-- what is still marked of a router's routes goes
abbrev pub sweep_of : (table router : List ℕ) → Changed Restarted
sweep_of t router = restart_of sweeping t router

-- a match of any kind: TABLE, then its arguments
unfoldable pub match_outcome : (table : List ℕ) → Asked → (output : List ℕ) → Outcome Found
match_outcome t asked output = unless (sound_of t) TABLE (and_then (read_asked (afi_in t) asked output) (λ q. given (match_in (afi_in t) q (routes_of t))))

-- the answer, and the output afterwards
unfoldable pub match_of : (table : List ℕ) → Asked → (output : List ℕ) → Changed Matched
match_of t asked output = matched_by (match_outcome t asked output) output
