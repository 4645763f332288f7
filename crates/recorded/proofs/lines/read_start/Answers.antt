-- The parts that were read are the start of the line. Assumes nothing.
use Rattle.std.proofs.Common.{arith, ◌≡◌, ◌≢◌, ◌-◌, ◌++◌, ℕ, List, Option, Some, None, IfSome, All, take, length, length-take, sym, ap, subst, ◌∙◌}
use Rattle.std.proofs.lemmas.List.Elements.{All-take, All-append}
use Rattle.std.specs.Io.BufRead.{first_piece}
use Rattle.recorded.proofs.LineParts.{start_more, parts, goes_on}
use Rattle.recorded.proofs.lines.read_start.Goals as goal

-- a line grows by what still fits
grown : (most : ℕ) (old new done part : List ℕ) → old ≡ take most done → new ≡ old ++ take (most - length old) part → new ≡ take most (done ++ part)
grown most old new done part is e = e ∙ ap (λ l. l ++ take (most - length l) part) is ∙ start_more most done part

-- the start of what was read is the start of the line
known : (o : Option (List ℕ)) (most : ℕ) (new bs : List ℕ) → new ≡ take most bs → IfSome o (λ xs. bs ≡ first_piece 10 xs) → IfSome o (λ xs. new ≡ take most (first_piece 10 xs))
known None most new bs is e = tt
known (Some xs) most new bs is e = is ∙ ap (take most) e

pub returns-in-Some : goal.returns-in-Some
returns-in-Some g c =
    let (done, none, is, read) = c.loop.invariant in
    let (part, none', more, read', end) = c.in_ok-fed.ensures.ok in
    let line = grown c.args.most _ _ done part is more in
    let whole = parts _ _ _ done part _ c.in-Some.fed c.in-Some.is none none' read read' end in
    record {
      held = omega (arith, ap length line, length-take c.args.most (done ++ part));
      one = subst (All (λ b. b ≢ 10)) (sym line) (All-take (λ b. b ≢ 10) c.args.most _ (All-append (λ b. b ≢ 10) done part none none'));
      fed = whole.0;
      bytes = known (g.B.Read.remaining c.args.input.now) c.args.most _ (done ++ part) line whole.1;
      rest = whole.2;
    }

pub loop-preserved : goal.loop-preserved
loop-preserved g c =
    let (done, none, is, read) = c.loop.invariant in
    let (part, none', more, read', end) = c.in_ok-fed.ensures.ok in (
      done ++ part,
      All-append (λ b. b ≢ 10) done part none none',
      grown c.args.most _ _ done part is more,
      goes_on _ _ _ done part c.in_ok-fed.field-0 c.in_default.is read read',
    )
