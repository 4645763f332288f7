-- The row that is read, or none. Assumes nothing.
use Rattle.std.proofs.Common.{rules, ◌≡◌, [], ap, ◌∙◌, None, Some}
use Rattle.std.specs.Prelude.{MatchOption, Option}
use Rattle.tag.specs.declared.Tag.{Tag as Label}
use Rattle.tag.specs.View.{bytes_of}
use Rattle.model.specs.declared.implicit_model.ComponentEntry.{ComponentEntry}
use Rattle.held.specs.Reading.{entry_read}
use Rattle.asking_commands.specs.Answers.{tag_of_row}
use Rattle.asking_commands.proofs.reply.tag_at.Goals as goal

-- the tag that stands for either
row_or : (o : Option ComponentEntry) (r d : Label) (Q : ComponentEntry → Type 0) → bytes_of d ≡ [] → ((e : ComponentEntry) → Q e → r ≡ e.tag) → MatchOption o (r ≡ d) Q → bytes_of r ≡ tag_of_row (entry_read o)
unfolding entry_read
row_or None r d Q none row m = ap bytes_of m ∙ none
row_or (Some e) r d Q none row m = ap bytes_of (row e m)

pub returns : goal.returns
returns c = row_or _ _ _ _ (search rules) (λ e q. search rules) c.map_or.ensures ∙ ap tag_of_row c.component_at.ensures
