-- What `{:02x}` and `{:016x}` write: the last digits of the number, with zeros ahead of it. Assumes nothing.
use Rattle.std.proofs.Common.{arith, ◌≡◌, ℕ, zero, suc, ◌+◌, ◌-◌, ◌/◌, ◌%◌, ◌^◌, ◌<◌, ◌≤◌, length, List, [], ◌∷◌, ◌++◌, replicate, false, refl, Some, Result}
use mathlib.Core.Path.{sym, ap, subst, ◌∙◌}
use mathlib.Core.List.{append_assoc, append-nil}
use mathlib.Core.Logic.{⊎_elim}
use borrow.Author.Tests.{ne_eqb}
use Rattle.std.specs.Option.{option_map}
use Rattle.std.specs.declared.fmt.Formatter.{Formatter}
use Rattle.std.specs.declared.fmt.Error.{Error}
use Rattle.std.specs.Fmt.{WritesOnOk, DisplaysOnOk, digit_glyph, digits_onto, digits, digits_output, padded_integral, char_count, format_spec, shown_prefix, radix_prefix, styled_digits_output}
use Rattle.std.proofs.lemmas.Bool.{cases_lt}
use Rattle.std.proofs.lemmas.List.{replicate_more}
use Rattle.word_writing.specs.Words.{hex}

abbrev glyph : ℕ → ℕ
glyph n = digit_glyph false (n % 16)

zeros : (k : ℕ) → hex k 0 ≡ replicate k 48
unfolding hex
zeros zero = refl
zeros (suc k) = ap (λ x. x ++ 48 ∷ []) (zeros k) ∙ replicate_more k 48 ∙ ap (λ m. replicate m 48) {x = k + 1} {y = suc k} (omega arith)

last : (k n : ℕ) (acc : List ℕ) → n < 16 → digits_onto (suc k) 16 false n acc ≡ glyph n ∷ acc
last k n acc small = let e : n / 16 ≡ 0 = omega arith in rw e

step : (k n : ℕ) (acc : List ℕ) → 16 ≤ n → digits_onto (suc k) 16 false n acc ≡ digits_onto k 16 false (n / 16) (glyph n ∷ acc)
step k n acc large = rw (ne_eqb (n / 16) 0 (λ e. omega arith))

-- no digit is lost, and the zeros ahead fill up
abbrev Fills : ℕ → ℕ → List ℕ → List ℕ → Type 0
Fills k n acc ds = replicate (k + length acc - length ds) 48 ++ ds ≡ hex k n ++ acc

fills_last : (k n : ℕ) (acc : List ℕ) → n < 16 → Fills (suc k) n acc (glyph n ∷ acc)
unfolding hex
fills_last k n acc small =
    let e : n / 16 ≡ 0 = omega arith in
    ap (λ m. replicate m 48 ++ glyph n ∷ acc) {x = suc k + length acc - suc (length acc)} {y = k} (omega arith)
    ∙ sym (append_assoc (replicate k 48) (glyph n ∷ []) acc)
    ∙ ap (λ x. (x ++ glyph n ∷ []) ++ acc) (sym (zeros k) ∙ ap (hex k) (sym e))

fills_step : (k n : ℕ) (acc front : List ℕ) → Fills k (n / 16) (glyph n ∷ acc) front → Fills (suc k) n acc front
unfolding hex
fills_step k n acc front f =
    ap (λ m. replicate m 48 ++ front) {x = suc k + length acc - length front} {y = k + suc (length acc) - length front} (omega arith)
    ∙ f ∙ sym (append_assoc (hex k (n / 16)) (glyph n ∷ []) acc)

fills : (k i n : ℕ) (acc : List ℕ) → n < 16 ^ suc k → k < i → Fills (suc k) n acc (digits_onto i 16 false n acc)
fills k zero n acc small some = absurd (omega arith)
fills zero (suc i) n acc small some = subst (Fills 1 n acc) (sym (last i n acc (omega arith))) (fills_last 0 n acc (omega arith))
fills (suc k) (suc i) n acc small some = ⊎_elim
    (λ one. subst (Fills (suc (suc k)) n acc) (sym (last i n acc one)) (fills_last (suc k) n acc one))
    (λ more. subst (Fills (suc (suc k)) n acc) (sym (step i n acc more)) (fills_step (suc k) n acc _ (fills k i (n / 16) (glyph n ∷ acc) (omega arith) (omega arith))))
    (cases_lt n 16)

-- `{:0kx}` of digits
padded : (k : ℕ) (ds : List ℕ) → padded_integral (format_spec 32 0 4 k (2 ^ 64 - 1)) false [] ds ≡ replicate (k - length ds) 48 ++ ds
unfolding padded_integral char_count
padded k ds = ap (λ x. replicate (k - length ds - 0 - 0) 48 ++ x) (append-nil ds) ∙ ap (λ m. replicate m 48 ++ ds) {x = k - length ds - 0 - 0} {y = k - length ds} (omega arith)

padded_digits : (k i n : ℕ) (ds : List ℕ) → ds ≡ digits_onto i 16 false n [] → n < 16 ^ suc k → k < i → padded_integral (format_spec 32 0 4 (suc k) (2 ^ 64 - 1)) false [] ds ≡ hex (suc k) n
padded_digits k i n ds e small some = padded (suc k) ds
    ∙ ap (λ m. replicate m 48 ++ ds) {x = suc k - length ds} {y = suc k + 0 - length ds} (omega arith)
    ∙ subst (Fills (suc k) n []) (sym e) (fills k i n [] small some) ∙ append-nil (hex (suc k) n)

by_digits : (n : ℕ) → digits 16 false n ≡ digits_onto 64 16 false n []
unfolding digits
by_digits n = refl

-- what a placeholder `{:0kx}` prints
printed : (k n : ℕ) (d : _) (s : _) → digits_output d ≡ Some (digits 16 false n) → s ≡ format_spec 32 0 4 (suc k) (2 ^ 64 - 1) → n < 16 ^ suc k → k < 64 → styled_digits_output d s ≡ Some (hex (suc k) n)
printed k n d s a b small some =
    (λ i. option_map (padded_integral (b i) false (shown_prefix (b i) (radix_prefix d.base))) (a i))
    ∙ ap (λ (x : List ℕ). Some x) (padded_digits k 64 n _ (by_digits n) small some)

pub shown : (k n : ℕ) (d : _) (s : _) → digits_output d ≡ Some (digits 16 false n) → s ≡ format_spec 32 0 4 (suc k) (2 ^ 64 - 1) → n < 16 ^ suc k → k < 64
    → {W : Type 0} (took : W → List ℕ → W → Type 0) (f g : Formatter W) (r : Result (Unit {0}) Error) → DisplaysOnOk took f r (styled_digits_output d s) g → WritesOnOk took f r (hex (suc k) n) g
shown k n d s a b small some took f g r = subst (λ o. DisplaysOnOk took f r o g) (printed k n d s a b small some)
