-- The answers of docs/PROTOCOL.md, as bytes. Definitions only.
use Rattle.std.specs.Prelude.{ℕ, min, List, [], ◌++◌, Option, None, Some, Result, Ok, Err, codes, decimal, take}
use Rattle.std.specs.List.{flat_map}
use Rattle.std.proofs.Math.Option.{Option as Maybe, none, some}
use Rattle.std.proofs.Math.ListN.{get_elem?}
use Rattle.tag.specs.declared.Tag.{Tag as Label}
use Rattle.tag.specs.Tags.{Tag}
use Rattle.tag.specs.View.{bytes_of}
use Rattle.component.specs.declared.model_component.Component.{Component}
use Rattle.model.specs.declared.implicit_model.Model.{Model}
use Rattle.model.specs.declared.model_error.Refusal.{Refusal}
use Rattle.model.specs.Answer.{number_of}
use Rattle.model.specs.View.{view}
use Rattle.word_writing.specs.Words.{bits_word, tag_word}
use Rattle.word_writing.specs.Kinds.{vec3_words}
use Rattle.asking_commands.specs.declared.reply.Order.{Order}
use Rattle.asking_commands.specs.declared.reply.Reply.{Reply}
use Rattle.asking_commands.specs.declared.reply.Reply.TheVariants.{Done, Made, Order as ordered, Number, Vector, Written, Refused, NoCommand}

-- how an edit ends
abbrev pub ended : Result (Option Label) Refusal → Reply
ended (Ok None) = Done
ended (Ok (Some t)) = Made t
ended (Err r) = Refused r

-- the tag of a row, the empty one where there is no row
abbrev pub tag_of_row : Maybe (Tag × Component) → Tag
tag_of_row none = []
tag_of_row (some row) = row.0

-- the tag at a position of the component table, a space ahead of it
abbrev pub next_tag : Model → ℕ → List ℕ
next_tag m i = codes " " ++ tag_word (tag_of_row (get_elem? (view m).components i))

-- COUNT TAG...: an order has 64 positions at most; of a larger count only 64 are written
abbrev pub order_words : Order → List ℕ
order_words o = decimal o.graph.count ++ flat_map (next_tag o.model.now) (take (min o.graph.count 64) o.graph.order)

-- NUMBER TAG INDEX
abbrev pub refusal_words : Refusal → List ℕ
refusal_words r = decimal (number_of r.error) ++ (codes " " ++ (tag_word (bytes_of r.tag) ++ (codes " " ++ decimal r.index)))

-- An answer. Of one that holds a record nothing is said, since the Display of a record states no output.
abbrev pub reply_text : Reply → Option (List ℕ)
reply_text Done = Some (codes "ok")
reply_text (Made t) = Some (codes "ok " ++ tag_word (bytes_of t))
reply_text (ordered o) = Some (codes "ok " ++ order_words o)
reply_text (Number bits) = Some (codes "ok " ++ bits_word bits)
reply_text (Vector v) = Some (codes "ok " ++ vec3_words v)
reply_text (Written r) = None
reply_text (Refused r) = Some (codes "refused " ++ refusal_words r)
reply_text NoCommand = Some (codes "error no command")
