-- THE REPLY that each case of the code's answer is, and what a refusal leaves. Their numbers in document 01 are given by `reply_number`.
-- Assumes nothing.
use Rattle.std.specs.Prelude.{List}
use Rattle.std.specs.declared.result.Result.{Result}
use Rattle.std.specs.declared.result.Result.TheVariants.{Ok, Err}
use Rattle.std.proofs.Math.Option.{Option, none, some}
use Rattle.records.specs.Refusals as refusals
use Rattle.records.specs.Refusals.{unfit, out_of_place, too_many_events, undefined, unbalanced, bound_twice, definitions_full, too_deep, too_many_scopes, too_many_selections, tuples_full, reports_full}
use Rattle.session_spec.specs.Session as session
use Rattle.session_spec.specs.Session.{taken, refused}
use Rattle.record_places.specs.declared.Refusal as input
use Rattle.record_places.specs.Places.{refusal_of}
use Rattle.open_scopes.specs.declared.Scope.{Scope}
use Rattle.open_scopes.specs.declared.Numbers.{Numbers}
use Rattle.worlds.specs.declared.SessionRefusal.{SessionRefusal}
use Rattle.worlds.specs.declared.SessionRefusal.TheVariants.{OutOfPlace, TooManyEvents, Undefined, Unbalanced, BoundTwice, DefinitionsFull, TooDeep, TooManyScopes, TooManySelections, TuplesFull, ReportsFull}
use Rattle.worlds.specs.declared.Refused.{Refused}
use Rattle.worlds.specs.declared.Refused.TheVariants as why
use Rattle.worlds.specs.declared.Done.{Done}

abbrev pub because_of_session : SessionRefusal → refusals.Refusal
because_of_session OutOfPlace = out_of_place
because_of_session TooManyEvents = too_many_events
because_of_session Undefined = undefined
because_of_session Unbalanced = unbalanced
because_of_session BoundTwice = bound_twice
because_of_session DefinitionsFull = definitions_full
because_of_session TooDeep = too_deep
because_of_session TooManyScopes = too_many_scopes
because_of_session TooManySelections = too_many_selections
because_of_session TuplesFull = tuples_full
because_of_session ReportsFull = reports_full

-- the refusal because of the session that an answer is, if it is one
abbrev pub reason_of : {A : Type 0} → Result A SessionRefusal → Option refusals.Refusal
reason_of (Ok a) = none
reason_of (Err c) = some (because_of_session c)

-- what a record is answered by, and the four answers
abbrev pub Reply : Type 0
Reply = Result (Unit {0}) Refused

abbrev pub Taken : Reply
Taken = Ok tt

abbrev pub Unfit : Reply
Unfit = Err why.Unfit

abbrev pub Input : input.Refusal → Reply
Input c = Err (why.Input c)

abbrev pub Session : SessionRefusal → Reply
Session c = Err (why.Session c)

abbrev pub reply_of : Reply → session.Reply
reply_of (Ok x) = taken
reply_of (Err why.Unfit) = refused unfit
reply_of (Err (why.Input c)) = refused (refusal_of c)
reply_of (Err (why.Session c)) = refused (because_of_session c)

-- a refusal because of the session leaves numbers and scopes as they were
abbrev pub refusal : Numbers → List Scope → SessionRefusal → Done
refusal n list c = record { reply = Session c; numbers = n; list = list }
