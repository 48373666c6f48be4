-- Computed: what stands behind '/' and './/', where an alternative ends, a text that is cut there, and the reason where
-- no separator stands behind a step.
-- Assumes nothing.
use Rattle.std.proofs.Common.{arith}
use Rattle.std.specs.Prelude.{◌≡◌, refl, [], ◌∷◌, map}
use denote.Ref.{Bor}
use Rattle.std.proofs.Math.Option.{some}
use Rattle.grammar.specs.Tokens.{Points}
use Rattle.grammar.specs.Paths.Kind.{selector}
use Rattle.std.specs.declared.option.Option.TheVariants.{Some}
use Rattle.std.specs.declared.result.Result.TheVariants.{Ok, Err}
use Rattle.tokens.specs.declared.Reason.TheVariants.{Separator}
use Rattle.reasons.specs.Reasons.{on_front, split_at}
use Rattle.path_walk.specs.Walk.{behind_step, SlashInside, DescentInside, vertical_bar, piece_length, BarAt}

behind : behind_step selector [] (Err Separator) ≡ some 14
behind = refl

abbrev lent : Points → Bor Points
lent s = record { ref_ptr = (0, 0); now = s }

-- '/a/b' and 'a/b'
behind-slash : SlashInside (0x2F ∷ 0x61 ∷ 0x2F ∷ 0x62 ∷ []) (Ok (Some (lent (0x61 ∷ 0x2F ∷ 0x62 ∷ []))))
behind-slash = (omega arith, refl)

-- './/a' and 'a'
behind-descent : DescentInside (0x2E ∷ 0x2F ∷ 0x2F ∷ 0x61 ∷ []) (Ok (Some (lent (0x61 ∷ []))))
behind-descent = (omega arith, refl)

-- nothing, 'a', '|a', 'ab|c'
lengths : map (piece_length vertical_bar) ([] ∷ (0x61 ∷ []) ∷ (0x7C ∷ 0x61 ∷ []) ∷ (0x61 ∷ 0x62 ∷ 0x7C ∷ 0x63 ∷ []) ∷ []) ≡ 0 ∷ 1 ∷ 0 ∷ 2 ∷ []
unfolding piece_length
lengths = refl

-- 'ab|c|d'
cut-first : BarAt (0x61 ∷ 0x62 ∷ 0x7C ∷ 0x63 ∷ 0x7C ∷ 0x64 ∷ []) (0x61 ∷ 0x62 ∷ []) (0x63 ∷ 0x7C ∷ 0x64 ∷ [])
unfolding on_front split_at piece_length
cut-first = record { pieces = refl; front = refl; sizes = refl }
