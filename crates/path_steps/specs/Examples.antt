-- Computed: the two kinds, a step that takes the whole text or a part of it, and one that takes nothing behind its name
-- test, or its axis alone.
-- Assumes nothing.
use Rattle.std.proofs.Common.{arith}
use Rattle.std.specs.Prelude.{◌≡◌, refl, [], ◌∷◌, map}
use denote.Ref.{Bor}
use Rattle.grammar.specs.Tokens.{Points}
use Rattle.grammar.specs.Paths.Kind.{selector, field}
use Rattle.std.specs.declared.option.Option.TheVariants.{Some}
use Rattle.std.specs.declared.result.Result.TheVariants.{Ok}
use Rattle.path_steps.specs.declared.PathKind.TheVariants.{Selector, Field}
use Rattle.path_steps.specs.Steps.{kind_of, Behind, Ahead}

kinds : map kind_of (Selector ∷ Field ∷ []) ≡ selector ∷ field ∷ []
kinds = refl

abbrev lent : Points → Bor Points
lent s = record { ref_ptr = (0, 0); now = s }

-- the text 'a' is one step
up-to-the-end : Ahead (0x61 ∷ []) (Ok (Some (lent [])))
up-to-the-end = (omega arith, refl)

-- behind the step of 'a/b' stands '/b'
up-to-the-slash : Ahead (0x61 ∷ 0x2F ∷ 0x62 ∷ []) (Ok (Some (lent (0x2F ∷ 0x62 ∷ []))))
up-to-the-slash = (omega arith, refl)

-- behind the name test of 'a/b' stands '/b', and so it does behind the step
up-to-the-name : Behind (0x2F ∷ 0x62 ∷ []) (Ok (Some (lent (0x2F ∷ 0x62 ∷ []))))
up-to-the-name = (omega arith, refl)

-- behind the name test of 'child::b/c' stands '::b/c', and behind the step '/c'
up-to-the-child : Behind (0x3A ∷ 0x3A ∷ 0x62 ∷ 0x2F ∷ 0x63 ∷ []) (Ok (Some (lent (0x2F ∷ 0x63 ∷ []))))
up-to-the-child = (omega arith, refl)
