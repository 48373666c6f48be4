-- The tests of a walked record one by one, and the marks.
-- Assumes nothing.
use Rattle.std.specs.Prelude.{ℕ, ltb, length, Bool, ◌||◌, not, ◌++◌}
use Rattle.std.specs.declared.option.Option as code
use Rattle.std.specs.declared.option.Option.TheVariants.{Some, None}
use Rattle.std.proofs.Math.Option.{Option, none, some}
use Rattle.lists.specs.Lists.{any}
use Rattle.texts.specs.Texts.{Text}
use Rattle.paths.specs.Names.{Attribute}
use Rattle.utf8.specs.Utf8.{utf8}
use Rattle.records.specs.Refusals.{first_of}
use Rattle.records.specs.Records as records
use Rattle.records.specs.Records.{Rec, texts_of, keys_in, long_path, body_rows, Parsed, judged, mark_id, mark_ns, mark_es, mark_ee, mark_fi}
use Rattle.record_places.specs.declared.Mark.{Mark}
use Rattle.record_places.specs.declared.Mark.TheVariants as mark

abbrev pub not_utf8 : Text → Bool
not_utf8 t = not (utf8 t)

unfoldable pub any_not_utf8 : Rec → Bool
any_not_utf8 r = any not_utf8 (texts_of r ++ keys_in r)

-- a field over a limit: over 255 bytes, or a long path
abbrev pub over_field : Text → Bool
over_field t = ltb 255 (length t) || long_path t

-- an attribute over a limit: the name over 255 bytes, or the key over 126
abbrev pub over_sizes : ℕ → ℕ → Bool
over_sizes name key = ltb 255 name || ltb 126 key

abbrev pub over_attribute : Attribute → Bool
over_attribute a = over_sizes (length a.name) (length a.key)

-- what a walked record is answered by
abbrev pub judgement : Rec → Parsed
judgement r = judged r (first_of (body_rows r))

abbrev pub mark_by : Mark → records.Mark
mark_by mark.Id = mark_id
mark_by mark.Ns = mark_ns
mark_by mark.Es = mark_es
mark_by mark.Ee = mark_ee
mark_by mark.Fi = mark_fi

abbrev pub marked_by : code.Option Mark → Option records.Mark
marked_by None = none
marked_by (Some m) = some (mark_by m)
