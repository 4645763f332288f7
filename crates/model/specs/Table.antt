-- Tables found by tag. Definitions only.
use Rattle.std.specs.Prelude.{Bool, true, false, not, ◌&&◌, ◌||◌, cond, List, [], ◌∷◌}
use Rattle.std.proofs.Math.Option.{Option, none, some}
use Rattle.tag.specs.Tags.{Tag, is}

abbrev pub all : {A : Type 0} → (A → Bool) → List A → Bool
all p [] = true
all p (x ∷ r) = p x && all p r

abbrev pub any : {A : Type 0} → (A → Bool) → List A → Bool
any p [] = false
any p (x ∷ r) = p x || any p r

abbrev pub Table : Type 0 → Type 0
Table A = List (Tag × A)

-- what t holds
unfoldable pub find : {A : Type 0} → Tag → Table A → Option A
find t [] = none
find t (e ∷ r) = cond (is e.0 t) (some e.1) (find t r)

unfoldable pub held : {A : Type 0} → Tag → Table A → Bool
held t [] = false
held t (e ∷ r) = is e.0 t || held t r

-- no tag stands twice
unfoldable pub distinct : {A : Type 0} → Table A → Bool
distinct [] = true
distinct (e ∷ r) = not (held e.0 r) && distinct r

-- the table without t
unfoldable pub cut : {A : Type 0} → Tag → Table A → Table A
cut t [] = []
cut t (e ∷ r) = cond (is e.0 t) (cut t r) (e ∷ cut t r)

-- the table where t holds a
unfoldable pub put : {A : Type 0} → Tag → A → Table A → Table A
put t a r = (t, a) ∷ cut t r

-- every entry changed, its tag kept
unfoldable pub each : {A : Type 0} → (A → A) → Table A → Table A
each f [] = []
each f (e ∷ r) = (e.0, f e.1) ∷ each f r

-- what t held is now under u, in place of what u held; where t held nothing, nothing moves
abbrev pub moved : {A : Type 0} → Tag → Tag → Table A → Option A → Table A
moved t u r none = r
moved t u r (some a) = put u a (cut t r)

unfoldable pub move : {A : Type 0} → Tag → Tag → Table A → Table A
move t u r = moved t u r (find t r)
