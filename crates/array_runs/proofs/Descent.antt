-- The descent along labels and places: where each open place has a move or a smaller open place, there is a move.
use Rattle.std.proofs.Common.{ℕ, zero, suc, ◌<◌, ◌≤◌, ◌⊎◌, inl, inr, arith}

module _ (Open : ℕ → Type 0) (label : ℕ → ℕ) (Moves : Type 0) where
  -- an open place of a lower label, or an earlier one of no higher label
  pub record Smaller (j : ℕ) : Type 0 where
    pub place : ℕ
    pub is_open : Open place
    pub before : (label place < label j) ⊎ ((place < j) × (label place ≤ label j))

  module _ (advance : (j : ℕ) → Open j → Moves ⊎ Smaller j) where
    by_place : (b : ℕ) → ((j : ℕ) → Open j → label j < b → Moves) → (n j : ℕ) → j < n → Open j → label j ≤ b → Moves
    by_place b lower zero j h o l = absurd (omega arith)
    by_place b lower (suc n) j h o l =
        let earlier : (i : ℕ) → i < n → Open i → label i ≤ b → Moves = by_place b lower n in
        elim (advance j o) [
          | inl m ↦ m
          | inr s ↦ elim s.before [
            | inl less ↦ lower s.place s.is_open (omega arith)
            | inr t ↦ earlier s.place (omega (arith, t.0)) s.is_open (omega (arith, t.1))
          ]
        ]

    by_label : (b j : ℕ) → Open j → label j < b → Moves
    by_label zero j o l = absurd (omega arith)
    by_label (suc b) j o l = by_place b (by_label b) (suc j) j (omega arith) o (omega arith)

    pub descent : (j : ℕ) → Open j → Moves
    descent j o = by_label (suc (label j)) j o (omega arith)
