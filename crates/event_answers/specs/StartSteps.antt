-- What is planned, written and left for an ES, in the words of the session that the world decodes to.
-- Assumes nothing.
use Rattle.std.specs.Prelude.{ℕ, suc, ◌+◌, ◌*◌, ◌%◌, ◌≤◌, ◌<◌, length, take, ◌≡◌, List, map}
use Rattle.std.specs.declared.result.Result.{Result}
use Rattle.std.specs.declared.result.Result.TheVariants.{Ok}
use Rattle.std.proofs.Math.Option.{some}
use Rattle.lists.specs.Lists.{part, over, put}
use Rattle.paths.specs.Reading.{on_some, every}
use Rattle.tree.specs.Events.{opened}
use Rattle.tree.specs.Judge.{kind_six}
use Rattle.records.specs.Readers.{Bytes, reads}
use Rattle.records.specs.Refusals.{first_of}
use Rattle.records.specs.Records.{EsRecord}
use Rattle.record_places.specs.declared.Es.{Es}
use Rattle.record_places.specs.Places.{text_in, attributes_at}
use Rattle.session_spec.specs.Definitions.{read_definitions, defined_at}
use Rattle.session_spec.specs.Layout.{read_rp, parts, put_name, name_in, put_scope, selection_in, Counts}
use Rattle.session_spec.specs.Session.{Session, start_of, reports_in}
use Rattle.session_laws.proofs.Constraints.{DefsFit}
use Rattle.session_laws.proofs.States.{Fine, StartFit}
use Rattle.open_scopes.specs.declared.Scopes.{Scopes}
use Rattle.open_scopes.specs.declared.Numbers.{Numbers}
use Rattle.open_scopes.specs.OpenScopes.{record_of, records_of}
use Rattle.worlds.specs.declared.SessionRefusal.{SessionRefusal}
use Rattle.worlds.specs.Replies as reply
use Rattle.worlds.specs.Replies.{reason_of, reply_of}
use Rattle.worlds.specs.Worlds.{world_of}
use Rattle.worlds.specs.PathArea.{PathArea}
use Rattle.path_area.specs.Scratch.{Scratched}
use Rattle.plans.specs.Plans.{answered, names_then, new_scopes, scopes_then, selections_then, sixes, started_by}
use Rattle.start_places.specs.StartPass.{marked, Selecting}
use Rattle.worlds.specs.declared.Done.{Done}
use Rattle.event_answers.specs.declared.Spot.{Spot}
use Rattle.event_answers.specs.declared.Plan.{Plan}
use Rattle.event_answers.specs.StartRows.{path_rows}

-- the ES that the places say
abbrev pub record_in : Bytes → Es → EsRecord
record_in rec es =
    record { space = text_in rec es.space; name = text_in rec es.name; numbers = text_in rec es.numbers; attributes = attributes_at rec es.first es.count }

-- ---- answers

-- the counts with the element
abbrev pub counts_then : Spot → (scopes selections more : ℕ) → Counts
counts_then spot scopes selections more =
    record { stage = spot.stage; scopes = scopes % 4294967296; selections = selections % 4294967296; opened = spot.opened + more }

-- ---- what is known of the session

-- Nothing that counts alone can tell stands against the ES, and the spot is where its element comes to stand.
pub record Begun (n : Numbers) (spot : Spot) (scopes : Scopes) (es : Es) (rec defs reports names cells : Bytes) (s : Session) : Type 0 where
  pub definitions : read_definitions defs ≡ some s.defs
  pub defs_fit : DefsFit s.defs
  pub fine : Fine s.defs s.state
  pub fit : StartFit s.defs (start_of (record_in rec es))
  pub whole : length (attributes_at rec es.first es.count) ≡ es.count
  pub events : n.events ≡ s.state.events
  pub early : s.state.events < 1000000
  pub event : spot.event ≡ suc s.state.events
  pub above : spot.above ≡ length s.state.names
  pub depth : spot.depth ≡ suc (length s.state.names)
  pub stage : spot.stage ≡ suc (suc (length s.state.names))
  pub selections : spot.selections ≡ length s.state.selections
  pub opened : spot.opened ≡ s.state.count
  pub held : scopes.n ≡ length s.state.scopes
  pub sixteen : length scopes.list ≡ 16
  pub deep : suc (length s.state.names) ≤ 64
  pub names_long : 32896 ≤ length names
  pub cells_long : 16384 ≤ length cells
  pub named : every name_in (parts 514 (length s.state.names) names) ≡ some s.state.names
  pub scoped : records_of scopes ≡ map put_scope s.state.scopes
  pub selected : every (selection_in s.state.scopes) (parts 512 (length s.state.selections) cells) ≡ some s.state.selections
  pub reported : on_some (reads read_rp (take n.reports reports)) (reports_in s.defs) ≡ some s.state.out.reports

-- ---- the plan

-- Nothing stands against the element: its name is written, and the plan has its scopes, the scopes that select it, and the numbers for kind 6.
pub record Planned (n : Numbers) (spot : Spot) (scopes : Scopes) (es : Es) (rec reports names : Bytes) (s : Session) (plan : Plan) (names' : Bytes) : Type 0 where
  pub name : names' ≡ over names (514 * length s.state.names) (put_name (start_of (record_in rec es)).name)
  pub called : every name_in (parts 514 spot.depth names') ≡ some (names_then s (record_in rec es))
  pub scoped : records_of plan.scopes ≡ map put_scope (scopes_then s (record_in rec es))
  pub listed : map record_of plan.scopes.list ≡ over (map record_of scopes.list) (length s.state.scopes) (map put_scope (new_scopes s (record_in rec es)))
  pub opens : spot.opened + plan.opened ≡ opened (defined_at s.defs) s.state.count (record_in rec es).numbers
  pub selecting : Selecting (names_then s (record_in rec es)) (scopes_then s (record_in rec es)) plan.picked
  pub told : sixes s (record_in rec es) ≡ map (λ i. kind_six (suc s.state.events) i) (marked plan.told 0 (record_in rec es).numbers)
  pub few_scopes : length (scopes_then s (record_in rec es)) ≤ 16
  pub few_selections : length (selections_then s (record_in rec es)) ≤ 32
  pub room : n.reports + 18 * length (sixes s (record_in rec es)) ≤ length reports

pub record Considers (n : Numbers) (spot : Spot) (scopes : Scopes) (es : Es) (rec defs reports paths names : Bytes) (plan : Result Plan SessionRefusal) (paths' names' : Bytes) : Type 0 where
  pub decides : 1024 ≤ length paths → (cells : Bytes) (s : Session) → Begun n spot scopes es rec defs reports names cells s
      → reason_of plan ≡ first_of (path_rows s (record_in rec es) n.reports (length reports))
  pub plans : 1024 ≤ length paths → (cells : Bytes) (s : Session) → Begun n spot scopes es rec defs reports names cells s → (p : Plan) → plan ≡ Ok p
      → Planned n spot scopes es rec reports names s p names'
  pub backs : (cells : Bytes) (s : Session) → Begun n spot scopes es rec defs reports names cells s
      → put names' (514 * spot.above) (part names (514 * spot.above) 514) ≡ names
  pub scratched : Scratched paths paths'
  pub size : length names' ≡ length names

-- ---- what is left

-- where a plan is carried out
pub record WritesStart (n : Numbers) (spot : Spot) (plan : Plan) (es : Es) (rec defs names' reports paths cells : Bytes) (r : Done) (reports' paths' cells' : Bytes) : Type 0 where
  pub leaves : 1024 ≤ length paths → (scopes : Scopes) (names : Bytes) (s : Session) → Begun n spot scopes es rec defs reports names cells s
      → Planned n spot scopes es rec reports names s plan names' → (room : ℕ) (store tuples : Bytes)
      → world_of r.numbers r.list room store tuples reports' names' cells'
      ≡ started_by (world_of n scopes.list room store tuples reports names cells) s (record_in rec es)
  pub taken : r.reply ≡ reply.Taken
  pub scratched : Scratched paths paths'

-- by what stands against it, planned and carried out, or refused
pub record StartsElement (n : Numbers) (spot : Spot) (scopes : Scopes) (es : Es) (rec defs reports paths names cells : Bytes) (r : Done) (reports' paths' names' cells' : Bytes) : Type 0 where
  pub leaves : 1024 ≤ length paths → (s : Session) → Begun n spot scopes es rec defs reports names cells s → (room : ℕ) (store tuples : Bytes)
      → (reply_of r.reply, world_of r.numbers r.list room store tuples reports' names' cells')
      ≡ answered (world_of n scopes.list room store tuples reports names cells)
      (started_by (world_of n scopes.list room store tuples reports names cells) s (record_in rec es))
      (first_of (path_rows s (record_in rec es) n.reports (length reports)))
  pub area : 1024 ≤ length paths → PathArea r.reply paths paths'
