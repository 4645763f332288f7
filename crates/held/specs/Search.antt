-- What the searches promise, and how many rows are live, over the definitions of document 01. Definitions only.
use Rattle.std.specs.Prelude.{◌≡◌, true, false, cond, List, [], ◌∷◌, ℕ, suc, ◌<◌, min, length, Option, Some, None, Result, MatchResult}
use Rattle.tag.specs.Tags.{Tag, is}
use Rattle.model.specs.declared.model_error.Refusal.{Refusal}
use Rattle.model.specs.Table.{Table, held}
use Rattle.model.specs.Edit.{refused}
use Rattle.model.specs.Answer.{refusal_of}

-- where the tag stands in a table whose head stands at i
unfoldable pub position : {A : Type 0} → Tag → ℕ → Table A → Option ℕ
position t i [] = None
position t i (e ∷ r) = cond (is e.0 t) (Some i) (position t (suc i) r)

-- what a search answers: the tag's position, below the table's size
pub record Sought {A : Type 0} (r : Table A) (cap : ℕ) (t : Tag) (f : Option ℕ) : Type 0 where
  pub at : f ≡ position t 0 r
  pub within : (i : ℕ) → f ≡ Some i → i < cap

-- a search for a tag that is to be held: its position, or 12, which carries the tag
abbrev pub Found : {A : Type 0} → Table A → ℕ → Tag → Result ℕ Refusal → Type 0
Found r cap t f = MatchResult f (λ i. Sought r cap t (Some i)) (λ e. Sought r cap t None × (refusal_of e ≡ refused 12 t 0))

-- and one for a tag that is to be free: 11, which carries it, where it is held
abbrev pub Free : {A B : Type 0} → Table A → Tag → Result B Refusal → Type 0
Free r t f = MatchResult f (λ _. held t r ≡ false) (λ e. (held t r ≡ true) × (refusal_of e ≡ refused 11 t 0))

-- n rows are live, of a table with room for cap
pub record Live {A : Type 0} (r : List A) (count cap n : ℕ) : Type 0 where
  pub live : n ≡ length r
  pub bound : n ≡ min count cap
