-- What a door answers in several numbers: a code point and its size; what became of a path; where the URI of a prefix stands.
-- Assumes nothing.
use Rattle.std.specs.Prelude.{ℕ, eqb, ◌≡◌, cond}
use Rattle.texts.specs.Texts.{Text}
use Rattle.utf8.specs.Front.{code_at, size_at}
use Rattle.std.specs.declared.option.Option as code
use Rattle.std.specs.declared.option.Option.TheVariants.{Some, None}
use Rattle.std.specs.declared.result.Result.{Result}
use Rattle.std.specs.declared.result.Result.TheVariants.{Ok, Err}
use Rattle.path_reader.specs.declared.Unparsed.{Unparsed}
use Rattle.path_reader.specs.declared.Unparsed.TheVariants.{Unread, NoRoom}
use Rattle.bindings.specs.declared.Uri.{Uri}
use Rattle.bindings.specs.declared.Uri.TheVariants.{Xml, Own, Schema}

pub record CharHere (s : Text) (at code size : ℕ) : Type 0 where
  pub is : code ≡ code_at s at
  pub takes : size ≡ size_at s at

-- 0 unread, 1 no room, 2 read, with so many bytes of entries
unfoldable pub parsed_by : (kind size : ℕ) → Result ℕ Unparsed
parsed_by kind size = cond (eqb kind 0) (Err Unread) (cond (eqb kind 1) (Err NoRoom) (Ok size))

-- 0 nowhere, 1 for `xml`, 2 among the own bindings, 3 among the schema-wide ones, from a place on and so many bytes
unfoldable pub found_by : (kind start size : ℕ) → code.Option Uri
found_by kind start size =
    cond (eqb kind 0) None
    (cond (eqb kind 1) (Some Xml)
    (cond (eqb kind 2) (Some (Own (record { start = start; size = size }))) (Some (Schema (record { start = start; size = size })))))
