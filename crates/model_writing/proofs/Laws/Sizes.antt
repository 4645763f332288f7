-- A record within its sizes, test by test. Assumes nothing.
use Prim.Native.Nat.{◌≤◌}
use mathlib.Core.Path.{◌≡◌}
use mathlib.Core.Bool.{Bool, true, ◌&&◌}
use lib.Dec.{leb}
use borrow.Author.Tests.{leb-true}
use Rattle.tag.specs.View.{tag_fits}
use Rattle.model.specs.declared.implicit_model.InputList.{InputList}
use Rattle.model.specs.declared.implicit_model.Model.{Model as Record}
use Rattle.model.specs.View.{rows, every, place_fits, entry_fits, list_fits, fits}
use Rattle.rows.proofs.Laws.Tests.{and_left, and_right}

module _ (l : InputList) where
  pub record Listed : Type 0 where
    pub tag : tag_fits l.tag ≡ true
    pub few : l.count ≤ 3
    pub places : every (rows place_fits l.count l.places) ≡ true

  pub listed : list_fits l ≡ true → Listed
  unfolding list_fits
  listed e =
      let ps = every (rows place_fits l.count l.places) in
      let r = and_right (tag_fits l.tag) (leb l.count 3 && (ps && true)) e in
      record {
        tag = and_left (tag_fits l.tag) (leb l.count 3 && (ps && true)) e;
        few = leb-true l.count 3 (and_left (leb l.count 3) (ps && true) r);
        places = and_left ps true (and_right (leb l.count 3) (ps && true) r);
      }

module _ (m : Record) where
  abbrev cs : Bool
  cs = every (rows entry_fits m.component_count m.components)

  abbrev ls : Bool
  ls = every (rows list_fits m.list_count m.lists)

  abbrev d : Bool
  d = place_fits m.default

  pub record Sized : Type 0 where
    pub components : m.component_count ≤ 64
    pub lists : m.list_count ≤ 128
    pub entries : cs ≡ true
    pub rows : ls ≡ true
    pub default : d ≡ true

  pub sized : fits m ≡ true → Sized
  unfolding fits
  sized e =
      let a = leb m.component_count 64 in
      let b = leb m.list_count 128 in
      let p = and_right a (b && (cs && (ls && (d && true)))) e in
      let q = and_right b (cs && (ls && (d && true))) p in
      let r = and_right cs (ls && (d && true)) q in
      record {
        components = leb-true m.component_count 64 (and_left a (b && (cs && (ls && (d && true)))) e);
        lists = leb-true m.list_count 128 (and_left b (cs && (ls && (d && true))) p);
        entries = and_left cs (ls && (d && true)) q;
        rows = and_left ls (d && true) r;
        default = and_left d true (and_right ls (d && true) r);
      }
