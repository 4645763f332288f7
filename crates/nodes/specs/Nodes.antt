-- Nodes, as the code numbers them, and their wires: what laying promises of these alone. Definitions only.
use Rattle.std.specs.Prelude.{ℕ, ◌-◌, ◌≤◌, ◌<◌, ◌≡◌, ◌↔◌, ◌⊎◌, Bool, true, false, cond, Option, Some, None, length, get_or, set, take, replicate, ltb}
use mathlib.Core.List.{List, [], ◌∷◌, ◌++◌, Memᴰ}
use Rattle.nodes.specs.declared.Wire.{Wire}
use Rattle.nodes.specs.declared.Wire.TheVariants.{To, Absent, Gap, Past}

-- x stands in the list
infix 4 ◌∈◌
abbrev pub ◌∈◌ : {N : Type 0} → N → List N → Type 0
x ∈ l = Memᴰ x l

-- ---- any wires: `ins a` is what the places of a name

module _ {N : Type 0} (ins : N → List N) where
  -- the reach of t
  pub data Reaches (t : N) : N → Type 0 where
    itself : Reaches t t
    wired : {a b : N} → Reaches t a → b ∈ ins a → Reaches t b

  -- something that t reaches, `tag`, reaches itself by one or more wires: it stands in a place of `user`, which it reaches
  pub record Circular (t : N) : Type 0 where
    pub tag : N
    pub user : N
    pub reached : Reaches t tag
    pub on : Reaches tag user
    pub back : tag ∈ ins user

  -- Wherever xs is cut in front of one of its members a, a is not ahead of the cut, and all its inputs are.
  pub record Laid (xs : List N) : Type 0 where
    pub once : (ahead : List N) (a : N) (rest : List N) → xs ≡ ahead ++ (a ∷ rest) → ¬ (a ∈ ahead)
    pub inputs : (ahead : List N) (a : N) (rest : List N) → xs ≡ ahead ++ (a ∷ rest) → (b : N) → b ∈ ins a → b ∈ ahead

  -- the reach of t, laid, t last
  pub record IsOrder (t : N) (xs : List N) : Type 0 where
    pub laid : Laid xs
    pub all : (a : N) → Reaches t a → a ∈ xs
    pub only : (a : N) → a ∈ xs → Reaches t a
    pub last : (ahead : List N) × (xs ≡ ahead ++ (t ∷ []))

-- ---- the wires in an array: a row of w for each of 192 nodes

-- the node that a wire leads to
abbrev pub target : Wire → Option ℕ
target (To x) = cond (ltb x 192) (Some x) None
target Absent = None
target Gap = None
target Past = None

-- the component that a wire leads to: a node below 64
abbrev pub component_target : Wire → Option ℕ
component_target (To x) = cond (ltb x 64) (Some x) None
component_target Absent = None
component_target Gap = None
component_target Past = None

-- the wire to the node of a number; absent where there is none
abbrev pub wire_to : ℕ → Wire
wire_to x = cond (ltb x 192) (To x) Absent

abbrev pub add : Option ℕ → List ℕ → List ℕ
add (Some x) l = x ∷ l
add None l = l

-- the nodes that wires lead to
unfoldable pub targets : List Wire → List ℕ
targets [] = []
targets (e ∷ l) = add (target e) (targets l)

-- what stands in the places of node i
abbrev pub wires_of : List (List Wire) → ℕ → List Wire
wires_of w i = get_or w i []

-- the nodes in the places of node i
unfoldable pub inputs_of : List (List Wire) → ℕ → List ℕ
inputs_of w i = targets (wires_of w i)

-- ---- lists of nodes

-- distinct nodes below n
pub record AreDistinct (n : ℕ) (xs : List ℕ) : Type 0 where
  pub small : (a : ℕ) → a ∈ xs → a < n
  pub once : (ahead : List ℕ) (a : ℕ) (rest : List ℕ) → xs ≡ ahead ++ (a ∷ rest) → ¬ (a ∈ ahead)

-- a mark for each node below n: whether it stands in xs
pub record MarksBelow (n : ℕ) (xs : List ℕ) (m : List Bool) : Type 0 where
  pub m_length : length m ≡ n
  pub marks : (a : ℕ) → a < n → (get_or m a false ≡ true) ↔ (a ∈ xs)

-- a mark for each of the 192 nodes
abbrev pub Marks : List ℕ → List Bool → Type 0
Marks xs m = MarksBelow 192 xs m

-- m, and then a mark for each of xs
unfoldable pub marked_with : List Bool → List ℕ → List Bool
marked_with m [] = m
marked_with m (x ∷ xs) = marked_with (set m x true) xs

-- the array that xs lies in, and its marks: nothing else was ever put there
abbrev pub array_of : ℕ → List ℕ → List ℕ
array_of n xs = xs ++ replicate (n - length xs) 0

abbrev pub marks_of : ℕ → List ℕ → List Bool
marks_of n xs = marked_with (replicate n false) xs

-- the first k entries of `at` are distinct nodes below n, and m marks them
pub record Listed (n : ℕ) (at : List ℕ) (k : ℕ) (m : List Bool) : Type 0 where
  pub at_length : length at ≡ n
  pub k_le : k ≤ n
  pub nodes : AreDistinct n (take k at)
  pub marked : MarksBelow n (take k at) m

-- and these entries give back all three
pub record GivesBack (n : ℕ) (at : List ℕ) (k : ℕ) (m : List Bool) : Type 0 where
  pub listed : Listed n at k m
  pub count_back : length (take k at) ≡ k
  pub array_back : array_of n (take k at) ≡ at
  pub marks_back : marks_of n (take k at) ≡ m

-- xs after x was pushed: it has joined at the end, if it is below n and was not there
pub data Pushed (n : ℕ) (xs : List ℕ) (x : ℕ) : List ℕ → Type 0 where
  stayed : (n ≤ x) ⊎ (x ∈ xs) → Pushed n xs x xs
  joined : x < n → ¬ (x ∈ xs) → Pushed n xs x (xs ++ (x ∷ []))

-- all inputs of node i stand in xs; or one does not
abbrev pub Ready : List (List Wire) → List ℕ → ℕ → Type 0
Ready w xs i = (b : ℕ) → b ∈ inputs_of w i → b ∈ xs

abbrev pub Waiting : List (List Wire) → List ℕ → ℕ → Type 0
Waiting w xs i = (b : ℕ) × (b ∈ inputs_of w i) × (¬ (b ∈ xs))

-- node i can be placed after xs: it is new, and ready; or it can't
abbrev pub Next : List (List Wire) → List ℕ → ℕ → Type 0
Next w xs i = (¬ (i ∈ xs)) × Ready w xs i

abbrev pub NotNext : List (List Wire) → List ℕ → ℕ → Type 0
NotNext w xs i = (i ∈ xs) ⊎ Waiting w xs i

-- xs after meeting the wires es: the nodes that they lead to have joined at its end, each once
pub record Grown (xs : List ℕ) (es : List Wire) (ys : List ℕ) : Type 0 where
  pub nodes : AreDistinct 192 xs → AreDistinct 192 ys
  pub more : List ℕ
  pub is : ys ≡ xs ++ more
  pub has : (e : Wire) → e ∈ es → (b : ℕ) → target e ≡ Some b → b ∈ ys
  pub only : (a : ℕ) → a ∈ ys → (a ∈ xs) ⊎ ((e : Wire) × (e ∈ es) × (target e ≡ Some a))

-- xs is the reach of t, each node once
pub record IsReach (w : List (List Wire)) (t : ℕ) (xs : List ℕ) : Type 0 where
  pub nodes : AreDistinct 192 xs
  pub all : (a : ℕ) → Reaches (inputs_of w) t a → a ∈ xs
  pub only : (a : ℕ) → a ∈ xs → Reaches (inputs_of w) t a

-- one of the line that can be placed next; none where no one can
abbrev pub NextIn : List (List Wire) → List ℕ → List ℕ → Option ℕ → Type 0
NextIn w line xs (Some x) = (x ∈ line) × Next w xs x
NextIn w line xs None = (a : ℕ) → a ∈ line → NotNext w xs a

-- the answer: an order of t; none where t closes a cycle
abbrev pub Ordered : List (List Wire) → ℕ → Option (List ℕ) → Type 0
Ordered w t (Some xs) = IsOrder (inputs_of w) t xs
Ordered w t None = Circular (inputs_of w) t

-- a wire to a component, or past the end
abbrev pub filled_of : Wire → Bool
filled_of (To x) = ltb x 64
filled_of Absent = false
filled_of Gap = false
filled_of Past = true

unfoldable pub all_filled : List Wire → Bool
all_filled [] = true
all_filled (e ∷ l) = cond (filled_of e) (all_filled l) false

-- node i is a component, and each of its places is filled
abbrev pub whole_of : List (List Wire) → ℕ → Bool
whole_of w i = cond (ltb i 64) (all_filled (wires_of w i)) false

-- a test that, where it holds, says so of each node
abbrev pub Whole : List (List Wire) → List ℕ → Bool → Type 0
Whole w xs b = b ≡ true → (x : ℕ) → x ∈ xs → whole_of w x ≡ true

-- the reach of t, laid out: an order of it or a cycle, and a test of all of it
pub record LaysOut (w : List (List Wire)) (t : ℕ) (reach : List ℕ) (order : Option (List ℕ)) (whole : Bool) : Type 0 where
  pub reached : IsReach w t reach
  pub laid : Ordered w t order
  pub test : Whole w reach whole

-- the first k entries
pub record Copied {A : Type 0} (k : ℕ) (xs r : List A) : Type 0 where
  pub r_length : length r ≡ k
  pub same : take k r ≡ take k xs
