-- "Exactly if". Assumes nothing.

-- a statement holds exactly if another does
abbrev pub Exactly : Type 0 → Type 0 → Type 0
Exactly P Q = (P → Q) × (Q → P)
