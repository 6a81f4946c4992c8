-- What a table holds after calls (document 01, "The table memory"; demand 2: the last accepted install of each NLRI not since withdrawn;
-- request W-208).
-- Stated here, proved in proofs/Statements/LastInstalled.antt.
use Rattle.std.specs.Prelude.{ℕ, ◌≡◌, Bool, true, false, List, ◌∷◌, ◌↔◌, length}
use Rattle.octets.specs.Numbers.{DONE}
use Rattle.octets.specs.Lists.{Among}
use Rattle.routes.specs.Route.{entry}
use Rattle.routes.specs.Table.{image_of, afi_in, places_in, routes_of, sound_of}
use Rattle.routes.specs.Restart.{RestartCall, marking, sweeping}
use Rattle.routes.specs.Calls.{make_of, install_of, withdraw_of, restart_of}
use Rattle.routes.specs.Call.{Call, install, withdraw, restart}
use Rattle.routes.specs.Run.{step_of, end_of}
use Rattle.routes.specs.Rules.ArgumentRules.{SPmsiOf, ArgumentRule}
use Rattle.routes.specs.Rules.CallRules.{LookupRule, MakeRule, InstallRule, WithdrawRule, RestartRule}

-- among calls on a table there is one of which this holds, by the octets that it finds and by the calls after it
pub data Came (Is : (found : List ℕ) → Call → (later : List Call) → Type 0) : (t : List ℕ) → List Call → Type 0 where
  here : {t : List ℕ} {c : Call} {later : List Call} → Is t c later → Came Is t (c ∷ later)
  behind : {t : List ℕ} {c : Call} {later : List Call} → Came Is (step_of t c).octets later → Came Is t (c ∷ later)

-- an accepted mark, or an accepted sweep, of the router of an NLRI: it answers DONE
pub data Restarts (which : RestartCall) (nlri found : List ℕ) : Call → (later : List Call) → Type 0 where
  is_accepted : {router : List ℕ} {later : List Call} → SPmsiOf (afi_in found) router nlri → (restart_of which found router).answer.number ≡ DONE
      → Restarts which nlri found (restart which router) later

-- what ends the route of an earlier install of an NLRI: an accepted install or withdrawal of it, which answers DONE; or it went by mark or sweep,
-- which counts as withdrawn: an accepted mark of its router that another accepted mark, or a sweep, of it followed
pub data Ends (nlri found : List ℕ) : Call → (later : List Call) → Type 0 where
  by_install : {attribute : List ℕ} {later : List Call} → (install_of found nlri attribute).answer.number ≡ DONE → Ends nlri found (install nlri attribute) later
  by_withdrawal : {later : List Call} → (withdraw_of found nlri).answer ≡ DONE → Ends nlri found (withdraw nlri) later
  by_restart : {which : RestartCall} {c : Call} {later : List Call} → Restarts marking nlri found c later → Came (Restarts which nlri) (step_of found c).octets later
      → Ends nlri found c later

-- an accepted install of an NLRI with this attribute, and what came of its route
pub record LastInstall (nlri attribute : List ℕ) (stale : Bool) (found : List ℕ) (c : Call) (later : List Call) : Type 0 where
  pub is : c ≡ install nlri attribute
  -- it answers DONE
  pub done : (install_of found nlri attribute).answer.number ≡ DONE
  -- nothing since ended its route
  pub last : Came (Ends nlri) (step_of found c).octets later → ⊥
  -- its mark: exactly when an accepted mark of its router came since
  pub mark : (stale ≡ true) ↔ Came (Restarts marking nlri) (step_of found c).octets later

-- octets that calls on a table just made leave: a sound table of the same family and size, the one image of its routes, which are the last
-- accepted install of each NLRI since which it was not withdrawn, with their marks
pub record Kept (afi : ℕ) (memory : List ℕ) (calls : List Call) : Type 0 where
  pub sound : sound_of (end_of (make_of afi memory).octets calls) ≡ true
  pub family : afi_in (end_of (make_of afi memory).octets calls) ≡ afi
  pub size : length (end_of (make_of afi memory).octets calls) ≡ length memory
  pub image : end_of (make_of afi memory).octets calls ≡ image_of afi (places_in memory) (routes_of (end_of (make_of afi memory).octets calls))
  pub exactly : (nlri attribute : List ℕ) (stale : Bool)
      → Among (entry nlri attribute stale) (routes_of (end_of (make_of afi memory).octets calls)) ↔ Came (LastInstall nlri attribute stale) (make_of afi memory).octets calls

-- each call on a table, and a table after calls
pub record LastInstalled : Type 0 where
  pub arguments : ArgumentRule
  pub lookups : LookupRule
  pub make : MakeRule
  pub install : InstallRule
  pub withdraw : WithdrawRule
  -- a mark leaves the routes of its router marked, a sweep leaves those that are not
  pub mark : RestartRule marking true
  pub sweep : RestartRule sweeping false
  -- every list of calls, with no premise on room; so it holds after each call, since calls as far as that one are a list of calls
  pub kept : (afi : ℕ) (memory : List ℕ) (calls : List Call) → (make_of afi memory).answer ≡ DONE → Kept afi memory calls
