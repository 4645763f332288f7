-- A component as 7 judges it. Assumes nothing.
use mathlib.Core.Path.{◌≡◌, refl, sym, ◌∙◌, ap}
use mathlib.Core.Logic.{◌≢◌}
use mathlib.Core.Bool.{true, false}
use mathlib.Core.List.{List}
use mathlib.Core.Option.{none, some}
use Prim.Native.Nat.{ℕ, zero, suc, ◌<◌, ◌≤◌}
use lib.Dec.{eqb}
use lib.ListN.{take, length, length-map}
use borrow.Author.Tests.{le-leb, lt-leb}
use Rattle.std.specs.Prelude.{Bool, Option, Some, None, MatchOption}
use Rattle.tag.specs.Tags.{Tag}
use Rattle.tag.specs.View.{bytes_of, tag_fits}
use Rattle.component.specs.Value.{input_count}
use Rattle.model.specs.declared.implicit_model.ComponentEntry.{ComponentEntry}
use Rattle.model.specs.declared.implicit_model.InputList.{InputList}
use Rattle.model.specs.declared.implicit_model.Model.{Model as Record}
use Rattle.model.specs.Table.{Table, find}
use Rattle.model.specs.Model.{Place, counted, list}
use Rattle.model.specs.View.{place_of, rows, lists_of, view}
use Rattle.held.specs.Reading.{places_read}
use Rattle.sound_components.specs.Sound.{entry_sound}

counted_none : (n : ℕ) → n ≢ 0 → counted n none ≡ false
counted_none zero h = absurd (h refl)
counted_none (suc n) h = refl

counted_some : (n : ℕ) (l : List Place) → n ≢ 0 → counted n (some l) ≡ eqb (length l) n
counted_some zero l h = absurd (h refl)
counted_some (suc n) l h = refl

-- a tag of more than 32 bytes is none
pub entry-long : (ls : Table (List Place)) (e : ComponentEntry) → 32 < e.tag.len → entry_sound ls e ≡ false
unfolding tag_fits
entry-long ls e h = rw (lt-leb e.tag.len 32 h)

module _ (ls : Table (List Place)) (e : ComponentEntry) (short : e.tag.len ≤ 32) (n : ℕ) (takes : n ≡ input_count e.component) where
  short' : tag_fits e.tag ≡ true
  unfolding tag_fits
  short' = le-leb e.tag.len 32 short

  pub entry-missing : n ≢ 0 → find (bytes_of e.tag) ls ≡ none → entry_sound ls e ≡ false
  entry-missing z p = rw (short', p, counted_none (input_count e.component) (λ q. z (takes ∙ q)))

  pub entry_found : n ≢ 0 → (l : List Place) → find (bytes_of e.tag) ls ≡ some l → entry_sound ls e ≡ eqb (length l) n
  entry_found z l p = rw (short', p, counted_some (input_count e.component) l (λ q. z (takes ∙ q)), takes)

-- ---- what `get_inputs` read

module _ (m : Record) (t : Tag) where
  pub unread : places_read None ≡ list (view m) t → find t (lists_of m) ≡ none
  unfolding places_read view
  unread h = sym h

  pub places_at : (l : InputList) → places_read (Some l) ≡ list (view m) t → find t (lists_of m) ≡ some (rows place_of l.count l.places)
  unfolding places_read view
  places_at l h = sym h

-- a test of the list that was read, where it is one of the places
module _ (m : Record) (e : ComponentEntry) (short : e.tag.len ≤ 32) (n : ℕ) (takes : n ≡ input_count e.component) (z : n ≢ 0) where
  pub judged : (o : Option InputList) (r : Bool) {P : InputList → Type 0} → ((l : InputList) → P l → r ≡ eqb (length (take l.count l.places)) n)
      → places_read o ≡ list (view m) (bytes_of e.tag) → MatchOption o (r ≡ false) P → r ≡ entry_sound (lists_of m) e
  unfolding rows
  judged None r f h k = k ∙ sym (entry-missing (lists_of m) e short n takes z (unread m (bytes_of e.tag) h))
  judged (Some l) r f h k = f l k ∙ ap (λ (i : ℕ). eqb i n) (sym (length-map (take l.count l.places) place_of)) ∙ sym (entry_found (lists_of m) e short n takes z (rows place_of l.count l.places) (places_at m (bytes_of e.tag) l h))
