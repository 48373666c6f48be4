-- A line is filled word after word; its array has room for six of them.
-- Assumes nothing.
use Prim.Native.Nat.{ℕ, ◌+◌, ◌≤◌}
use native.Mathlib.Omega.{arith}
use lib.ListN.{length, take, length-append}
use mathlib.Core.Path.{◌≡◌, refl, ap, sym, ◌∙◌, subst}
use mathlib.Core.List.{List, [], ◌∷◌, ◌++◌, append_assoc}
use Rattle.lists.proofs.Writes.{put-fits, take-over}
use Rattle.tree.specs.Judge.{Report}
use Rattle.records.specs.Readers.{Bytes}
use Rattle.output_stores.specs.Stores.{Appended}
use Rattle.tuple_search.proofs.Making.{fits_next, appended_then}
use Rattle.lines.specs.declared.Line.{Line}
use Rattle.lines.specs.Lines.{word, report_line, end_line, refused_line, LineOf}
use Rattle.lines.proofs.Words.{word-short}

abbrev pub line_with : Bytes → ℕ → Line
line_with bytes size = record { bytes = bytes; size = size }

-- what is appended to nothing is the line
filled : (d text : Bytes) (size : ℕ) (after : Bytes) → 128 ≡ length d → length text ≤ 128 → Appended d 0 text size after → LineOf text (line_with after size)
filled d text size after e h a =
    let n : size ≡ 0 + length text = fits_next d 0 text size after a (omega arith) in
    record {
      holds =
          ap (λ (k : ℕ). take k after) n ∙ ap (take (0 + length text)) (a.leaves ∙ put-fits d 0 text (omega arith)) ∙ take-over d 0 text (omega arith);
      short = omega arith;
    }

-- one word more
more : (d text : Bytes) (mid next : ℕ) (m after : Bytes) (n end : ℕ) → Appended d 0 text mid m → length text + 21 ≤ length d → Appended m mid (word n end) next after
    → Appended d 0 (text ++ word n end) next after
more d text mid next m after n end a h b = appended_then d 0 text (word n end) mid next m after a b (let s = word-short n end in omega arith)

longer : (text : Bytes) (n end : ℕ) → length (text ++ word n end) ≤ length text + 21
longer text n end = let l = length-append text (word n end) in let s = word-short n end in omega arith

-- ---- the lines

module _ (d : Bytes) (e : 128 ≡ length d) (at : ℕ) (m₀ : Bytes) (s₁ : ℕ) (m₁ : Bytes) (s₂ : ℕ) (m₂ : Bytes) where
  pub refused-filled : (place number : ℕ) → Appended d 0 (114 ∷ 101 ∷ 102 ∷ 117 ∷ 115 ∷ 101 ∷ 100 ∷ 32 ∷ []) at m₀
      → Appended m₀ at (word place 32) s₁ m₁ → Appended m₁ s₁ (word number 10) s₂ m₂ → LineOf (refused_line place number) (line_with m₂ s₂)
  unfolding refused_line
  refused-filled p n a b c =
      let t₀ : Bytes = 114 ∷ 101 ∷ 102 ∷ 117 ∷ 115 ∷ 101 ∷ 100 ∷ 32 ∷ [] in
      let t₁ : Bytes = t₀ ++ word p 32 in
      let l₁ : length t₁ ≤ 29 = longer t₀ p 32 in
      let l₂ = longer t₁ n 10 in
      let q = more d t₁ s₁ s₂ m₁ m₂ n 10 (more d t₀ at s₁ m₀ m₁ p 32 a (omega arith) b) (omega arith) c in
      subst (λ (t : Bytes). LineOf t (line_with m₂ s₂)) (append_assoc t₀ (word p 32) (word n 10)) (filled d (t₁ ++ word n 10) s₂ m₂ e (omega arith) q)

  module _ (s₃ : ℕ) (m₃ : Bytes) where
    pub end-filled : (events tuples reports : ℕ) → Appended d 0 (101 ∷ 110 ∷ 100 ∷ 32 ∷ []) at m₀
        → Appended m₀ at (word events 32) s₁ m₁ → Appended m₁ s₁ (word tuples 32) s₂ m₂ → Appended m₂ s₂ (word reports 10) s₃ m₃
        → LineOf (end_line events tuples reports) (line_with m₃ s₃)
    unfolding end_line
    end-filled x y z a b c f =
        let t₀ : Bytes = 101 ∷ 110 ∷ 100 ∷ 32 ∷ [] in
        let t₁ : Bytes = t₀ ++ word x 32 in
        let t₂ : Bytes = t₁ ++ word y 32 in
        let l₁ : length t₁ ≤ 25 = longer t₀ x 32 in
        let l₂ : length t₂ ≤ length t₁ + 21 = longer t₁ y 32 in
        let l₃ = longer t₂ z 10 in
        let q₁ = more d t₀ at s₁ m₀ m₁ x 32 a (omega arith) b in
        let q₂ = more d t₁ s₁ s₂ m₁ m₂ y 32 q₁ (omega arith) c in
        let q₃ = more d t₂ s₂ s₃ m₂ m₃ z 10 q₂ (omega arith) f in
        let g : t₂ ++ word z 10 ≡ t₀ ++ (word x 32 ++ (word y 32 ++ word z 10)) = append_assoc t₁ (word y 32) (word z 10) ∙ append_assoc t₀ (word x 32) (word y 32 ++ word z 10) in
        subst (λ (t : Bytes). LineOf t (line_with m₃ s₃)) g (filled d (t₂ ++ word z 10) s₃ m₃ e (omega arith) q₃)

module _ (d : Bytes) (e : 128 ≡ length d) (r : Report) (n₁ n₂ n₃ n₄ n₅ n₆ : ℕ) (s₁ : ℕ) (m₁ : Bytes) (s₂ : ℕ) (m₂ : Bytes) (s₃ : ℕ) (m₃ : Bytes) (s₄ : ℕ) (m₄ : Bytes) (s₅ : ℕ) (m₅ : Bytes) (s₆ : ℕ) (m₆ : Bytes) where
  six-filled : Appended d 0 (word n₁ 32) s₁ m₁ → Appended m₁ s₁ (word n₂ 32) s₂ m₂ → Appended m₂ s₂ (word n₃ 32) s₃ m₃ → Appended m₃ s₃ (word n₄ 32) s₄ m₄
      → Appended m₄ s₄ (word n₅ 32) s₅ m₅ → Appended m₅ s₅ (word n₆ 10) s₆ m₆
      → LineOf (word n₁ 32 ++ (word n₂ 32 ++ (word n₃ 32 ++ (word n₄ 32 ++ (word n₅ 32 ++ word n₆ 10))))) (line_with m₆ s₆)
  six-filled a₁ a₂ a₃ a₄ a₅ a₆ =
      let t₁ : Bytes = word n₁ 32 in
      let t₂ : Bytes = t₁ ++ word n₂ 32 in
      let t₃ : Bytes = t₂ ++ word n₃ 32 in
      let t₄ : Bytes = t₃ ++ word n₄ 32 in
      let t₅ : Bytes = t₄ ++ word n₅ 32 in
      let l₁ : length t₁ ≤ 21 = word-short n₁ 32 in
      let l₂ : length t₂ ≤ length t₁ + 21 = longer t₁ n₂ 32 in
      let l₃ : length t₃ ≤ length t₂ + 21 = longer t₂ n₃ 32 in
      let l₄ : length t₄ ≤ length t₃ + 21 = longer t₃ n₄ 32 in
      let l₅ : length t₅ ≤ length t₄ + 21 = longer t₄ n₅ 32 in
      let l₆ = longer t₅ n₆ 10 in
      let q₂ = more d t₁ s₁ s₂ m₁ m₂ n₂ 32 a₁ (omega arith) a₂ in
      let q₃ = more d t₂ s₂ s₃ m₂ m₃ n₃ 32 q₂ (omega arith) a₃ in
      let q₄ = more d t₃ s₃ s₄ m₃ m₄ n₄ 32 q₃ (omega arith) a₄ in
      let q₅ = more d t₄ s₄ s₅ m₄ m₅ n₅ 32 q₄ (omega arith) a₅ in
      let q₆ = more d t₅ s₅ s₆ m₅ m₆ n₆ 10 q₅ (omega arith) a₆ in
      let g : t₅ ++ word n₆ 10 ≡ t₁ ++ (word n₂ 32 ++ (word n₃ 32 ++ (word n₄ 32 ++ (word n₅ 32 ++ word n₆ 10)))) =
      append_assoc t₄ (word n₅ 32) (word n₆ 10) ∙ append_assoc t₃ (word n₄ 32) (word n₅ 32 ++ word n₆ 10) ∙ append_assoc t₂ (word n₃ 32) (word n₄ 32 ++ (word n₅ 32 ++ word n₆ 10)) ∙ append_assoc t₁ (word n₂ 32) (word n₃ 32 ++ (word n₄ 32 ++ (word n₅ 32 ++ word n₆ 10))) in
      subst (λ (t : Bytes). LineOf t (line_with m₆ s₆)) g (filled d (t₅ ++ word n₆ 10) s₆ m₆ e (omega arith) q₆)

  -- the numbers are those of the report
  pub report-filled : n₁ ≡ r.event → n₂ ≡ r.kind → n₃ ≡ r.constraint → n₄ ≡ r.field → n₅ ≡ r.scope → n₆ ≡ r.tuple
      → Appended d 0 (word n₁ 32) s₁ m₁ → Appended m₁ s₁ (word n₂ 32) s₂ m₂ → Appended m₂ s₂ (word n₃ 32) s₃ m₃ → Appended m₃ s₃ (word n₄ 32) s₄ m₄
      → Appended m₄ s₄ (word n₅ 32) s₅ m₅ → Appended m₅ s₅ (word n₆ 10) s₆ m₆ → LineOf (report_line r) (line_with m₆ s₆)
  unfolding report_line
  report-filled e₁ e₂ e₃ e₄ e₅ e₆ a₁ a₂ a₃ a₄ a₅ a₆ =
      rw (← e₁, ← e₂, ← e₃, ← e₄, ← e₅, ← e₆) (six-filled a₁ a₂ a₃ a₄ a₅ a₆)
