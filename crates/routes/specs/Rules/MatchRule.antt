-- What holds of match (document 01, "Which route a flow takes"; demand 2: a flow gets the first route in RFC 6625's order, and none only when
-- no route matches). Stated here, proved in proofs/Statements/MatchRule.antt.
use Rattle.std.specs.Prelude.{ℕ, ◌+◌, ◌≤◌, ◌<◌, ◌≡◌, Bool, true, false, List, [], ◌∷◌, ◌++◌, ◌↔◌, ◌≢◌, length, get_or}
use Rattle.octets.specs.Numbers.{DONE, TABLE}
use Rattle.octets.specs.Outcome.{given}
use Rattle.octets.specs.Octets.{part}
use Rattle.octets.specs.Order.{before}
use Rattle.octets.specs.Lists.{Among}
use Rattle.nlri.specs.Fields.{Fields}
use Rattle.groups.specs.Rules.ClassRule.{Specific}
use Rattle.tunnel.specs.Attribute.{AttributeFields, read_attribute}
use Rattle.routes.specs.declared.Matched.{Matched}
use Rattle.routes.specs.Route.{Route, entry, nlri_of, attribute_of, Distinct}
use Rattle.routes.specs.Query.{Query, Flow, flow_of}
use Rattle.routes.specs.Arguments.{read_flow}
use Rattle.routes.specs.Asked.{Asked, of_flow}
use Rattle.routes.specs.Table.{afi_in, routes_of, sound_of}
use Rattle.routes.specs.Matching.{nothing, found, match_in}
use Rattle.octets.specs.Outputs.{Changed}
use Rattle.routes.specs.Calls.{match_of}
use Rattle.routes.specs.Rules.ArgumentRules.{SPmsiOf, GoodFlow, FlowRefusal}

-- the condition of each tier, 1 to 4; a wildcard is no octets, and a multicast group that is not SSM is ASM
pub data InTier (afi : ℕ) (flow : Flow) : (tier : ℕ) → Fields → Type 0 where
  both_equal : {f : Fields} → f.source ≡ flow.source → f.group ≡ flow.group → InTier afi flow 1 f
  source_equal : {f : Fields} → f.source ≡ flow.source → f.group ≡ [] → Specific afi flow.prefixes flow.group → InTier afi flow 2 f
  group_equal : {f : Fields} → f.source ≡ [] → f.group ≡ flow.group → (Specific afi flow.prefixes flow.group → ⊥) → InTier afi flow 3 f
  both_wildcard : {f : Fields} → f.source ≡ [] → f.group ≡ [] → InTier afi flow 4 f

-- an attribute that names a tunnel: attribute reading accepts it, and its tunnel type is not 0, "no tunnel information"
pub record NamesTunnel (attribute : List ℕ) : Type 0 where
  pub fields : AttributeFields
  pub read : read_attribute attribute ≡ given fields
  pub some : fields.tunnel_type ≢ 0

-- a candidate: a route of the router asked whose attribute names a tunnel
pub record Candidate (afi : ℕ) (router : List ℕ) (r : Route) : Type 0 where
  pub own : SPmsiOf afi router (nlri_of r)
  pub tunnel : NamesTunnel (attribute_of r)

-- what a match of any kind takes, by the router asked and the conditions of the tiers
module _ (afi : ℕ) (router : List ℕ) (In : (tier : ℕ) → Fields → Type 0) where
  -- a candidate that meets the condition of a tier
  pub record Eligible (tier : ℕ) (r : Route) : Type 0 where
    pub candidate : Candidate afi router r
    pub met : In tier candidate.own.named.fields

  -- the route that is taken of some routes, with its tier
  pub record Taken (rs : List Route) (tier : ℕ) (r : Route) : Type 0 where
    pub member : Among r rs
    pub eligible : Eligible tier r
    -- no candidate meets the condition of a lower tier
    pub lowest : (other : ℕ) (u : Route) → other < tier → Among u rs → Eligible other u → ⊥
    -- none of its tier has a lower route distinguisher, compared as eight octets
    pub first : (u : Route) → Among u rs → (e : Eligible tier u) → before e.candidate.own.named.fields.distinguisher eligible.candidate.own.named.fields.distinguisher ≡ false
    -- it is the only route of that tier and route distinguisher
    pub only : (u : Route) → Among u rs → (e : Eligible tier u) → e.candidate.own.named.fields.distinguisher ≡ eligible.candidate.own.named.fields.distinguisher → u ≡ r

  -- no candidate meets the condition of any tier
  abbrev pub NoneTaken : List Route → Type 0
  NoneTaken rs = (tier : ℕ) (u : Route) → Among u rs → Eligible tier u → ⊥

-- a route told: its tier and sizes as numbers; its NLRI and its attribute at the front of the output, one straight after the other, at
-- most 124 octets; every octet past them as it was
pub record Told (tier : ℕ) (r : Route) (output : List ℕ) (changed : Changed Matched) : Type 0 where
  pub number : changed.answer.number ≡ DONE
  pub of_tier : changed.answer.tier ≡ tier
  pub sizes : (changed.answer.nlri_size ≡ length (nlri_of r)) × (changed.answer.attribute_size ≡ length (attribute_of r))
  pub most : length (nlri_of r) + length (attribute_of r) ≤ 124
  pub size : length changed.octets ≡ length output
  pub nlri : part changed.octets 0 (length (nlri_of r)) ≡ nlri_of r
  pub attribute : part changed.octets (length (nlri_of r)) (length (attribute_of r)) ≡ attribute_of r
  pub past : (i : ℕ) → length (nlri_of r) + length (attribute_of r) ≤ i → get_or changed.octets i 0 ≡ get_or output i 0

-- no route told: empty fields, and the output untouched
pub record Untold (output : List ℕ) (changed : Changed Matched) : Type 0 where
  pub tierless : changed.answer.tier ≡ 0
  pub sizes : (changed.answer.nlri_size ≡ 0) × (changed.answer.attribute_size ≡ 0)
  pub untouched : changed.octets ≡ output

-- what a match that is done answers, over some routes: the route that it takes is told; or none is, only where no candidate meets the
-- condition of any tier
pub data MatchAnswer (afi : ℕ) (router : List ℕ) (In : (tier : ℕ) → Fields → Type 0) (output : List ℕ) (rs : List Route) (changed : Changed Matched) : Type 0 where
  one_told : (tier : ℕ) (r : Route) → Taken afi router In rs tier r → Told tier r output changed → MatchAnswer afi router In output rs changed
  none_told : NoneTaken afi router In rs → changed.answer.number ≡ DONE → Untold output changed → MatchAnswer afi router In output rs changed

-- why a match refuses: TABLE, then its arguments
pub data MatchRefusal (Refusal : (afi : ℕ) → ℕ → Type 0) (t : List ℕ) : ℕ → Type 0 where
  match_unsound : sound_of t ≡ false → MatchRefusal Refusal t TABLE
  bad_match : {n : ℕ} → sound_of t ≡ true → Refusal (afi_in t) n → MatchRefusal Refusal t n

-- a match of any kind over a table: each answer exactly when, and what it leaves. Its kind says of whom it is asked, when its arguments are good, why
-- they are refused, and the conditions of its tiers
pub record TableMatch (asked : Asked) (router : List ℕ) (Good : (afi : ℕ) → Type 0) (Refusal : (output : List ℕ) (afi : ℕ) → ℕ → Type 0) (In : (afi tier : ℕ) → Fields → Type 0) : Type 0 where
  pub refuses : (t output : List ℕ) (n : ℕ) → n ≢ DONE → ((match_of t asked output).answer.number ≡ n) ↔ MatchRefusal (Refusal output) t n
  pub done : (t output : List ℕ) → ((match_of t asked output).answer.number ≡ DONE) ↔ ((sound_of t ≡ true) × Good (afi_in t) × (124 ≤ length output))
  pub answers : (t output : List ℕ) → (match_of t asked output).answer.number ≡ DONE → MatchAnswer (afi_in t) router (In (afi_in t)) output (routes_of t) (match_of t asked output)
  -- a refusal has empty fields and changes no octet
  pub untold : (t output : List ℕ) → (match_of t asked output).answer.number ≢ DONE → Untold output (match_of t asked output)

-- routes that differ in marks alone: the same NLRIs with the same attributes, one after the other
pub data DifferInMarks : List Route → List Route → Type 0 where
  none : DifferInMarks [] []
  one : {nlri attribute : List ℕ} {stale mark : Bool} {rs us : List Route} → DifferInMarks rs us → DifferInMarks (entry nlri attribute stale ∷ rs) (entry nlri attribute mark ∷ us)

-- sound tables of one family whose routes differ in marks alone
pub record TablesDifferInMarks (t u : List ℕ) : Type 0 where
  pub sound : (sound_of t ≡ true) × (sound_of u ≡ true)
  pub family : afi_in t ≡ afi_in u
  pub routes : DifferInMarks (routes_of t) (routes_of u)

-- the match for a flow: what it chooses, and what it answers
pub record MatchRule : Type 0 where
  -- the flow of a call's arguments: its prefixes, its router, its source and its group
  pub arguments : (prefixes router source group : List ℕ)
      → ((flow_of prefixes router source group).prefixes ≡ prefixes) × ((flow_of prefixes router source group).router ≡ router)
      × ((flow_of prefixes router source group).source ≡ source) × ((flow_of prefixes router source group).group ≡ group)
  -- a route that is not taken may come or go, whatever a match of any kind asks and wherever the route stands (request W-213)
  pub untaken : (afi : ℕ) (q : Query) (earlier later : List Route) (r : Route) → ((tier : ℕ) → match_in afi q (earlier ++ (r ∷ later)) ≢ found tier r)
      → match_in afi q (earlier ++ (r ∷ later)) ≡ match_in afi q (earlier ++ later)
  -- so may one that names no tunnel, which is never taken (RFC 8556, section 4.1; request W-202)
  pub ignored : (afi : ℕ) (q : Query) (earlier later : List Route) (r : Route) → (NamesTunnel (attribute_of r) → ⊥) → match_in afi q (earlier ++ (r ∷ later)) ≡ match_in afi q (earlier ++ later)
  -- a marked route still matches (request W-208): whatever a match of any kind asks, marks change neither its answer nor the output octets
  pub marks : (t u : List ℕ) (asked : Asked) (output : List ℕ) → TablesDifferInMarks t u → match_of t asked output ≡ match_of u asked output
  -- over any routes with no NLRI twice, in any order
  pub chosen : (afi : ℕ) (flow : Flow) (q : Query) (rs : List Route) → read_flow afi flow ≡ given q → Distinct rs
      → (tier : ℕ) (r : Route) → (match_in afi q rs ≡ found tier r) ↔ Taken afi flow.router (InTier afi flow) rs tier r
  pub none : (afi : ℕ) (flow : Flow) (q : Query) (rs : List Route) → read_flow afi flow ≡ given q
      → (match_in afi q rs ≡ nothing) ↔ NoneTaken afi flow.router (InTier afi flow) rs
  -- over a table
  pub table : (flow : Flow) → TableMatch (of_flow flow) flow.router (λ afi. GoodFlow afi flow) (λ output afi. FlowRefusal afi flow output) (λ afi. InTier afi flow)
