-- Where words break off from being trees for a list of claims, in tree order.
use Rattle.std.specs.Prelude.{ℕ, suc, List, [], ◌∷◌, ◌++◌}
use Rattle.trees.specs.declared.Node.{Node}
use Rattle.trees.specs.Rules.{Frame, Claim, Rule}

-- No rule of the table makes the node prove the claim.
abbrev pub NoRule : Frame → Claim → Node → Type 0
NoRule frame c x = (needs : List Claim) → ¬ Rule frame c x needs

-- The place is that of the first word that is wrong for its claim; if no word is wrong, that of the word that
-- is missing (the length) or of the first word left over.
pub data Breaks (frame : Frame) : List Claim → List Node → ℕ → Type 0 where
  wrong : {c : Claim} {cs : List Claim} {x : Node} {ws : List Node} → NoRule frame c x
      → Breaks frame (c ∷ cs) (x ∷ ws) 0
  missing : {c : Claim} {cs : List Claim} → Breaks frame (c ∷ cs) [] 0
  leftover : {x : Node} {ws : List Node} → Breaks frame [] (x ∷ ws) 0
  later : {c : Claim} {cs needs : List Claim} {x : Node} {ws : List Node} {p : ℕ}
      → Rule frame c x needs → Breaks frame (needs ++ cs) ws p → Breaks frame (c ∷ cs) (x ∷ ws) (suc p)
