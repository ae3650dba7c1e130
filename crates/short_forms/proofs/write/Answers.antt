use Rattle.std.proofs.Common.{◌≡◌, ℕ, ◌*◌, ◌≤◌, length, arith, refl}
use lib.ListN.{length-take, length-drop}
use Rattle.model.specs.Sides.{Side, confidentiality, integrity}
use Rattle.model.specs.Terms.{Term}
use Rattle.words.specs.declared.Tables.{Tables}
use Rattle.words.specs.Evaluation.{row_count, word_count, table_on, Tabled, EvaluatedTo}
use Rattle.words.proofs.Names.{words_few, rows_few, words_in_rows}
use Rattle.words.proofs.Lists.{tabled_few}
use Rattle.short_forms.specs.Listings.{marked, irredundant, listing}
use Rattle.short_forms.proofs.Needed.{listing_few}
use Rattle.short_forms.proofs.Sides.{sides_written}
use Rattle.short_forms.proofs.write.Goals as goal

-- tables of 64 words, once they are evaluated
module _ {t : Term} {before after : Tables} (n : ℕ) (e : (s : Side) → EvaluatedTo t s (4 * row_count n) (table_on before s) (table_on after s)) (s : Side) (room : length (table_on before s) ≡ 64) where
  -- the table of a side has its words
  tabled : Tabled t s (word_count n) (table_on after s)
  tabled = tabled_few (words_in_rows n) ((e s).table (omega (arith, rows_few n)))

  long : word_count n ≤ length (table_on after s)
  long = omega (arith, words_few n, (e s).same)

  -- so its listing fits half of the buffer
  fit : n ≤ 12 → length (listing n (irredundant n (marked (table_on after s)))) ≤ 1850
  fit h = listing_few s _ n t h tabled

pub list_side-first-requires : goal.list_side-first-requires
list_side-first-requires c =
    let n = c.args.n in
    (c.requires.0, long n c.evaluate.ensures confidentiality refl, omega (arith, c.requires.1, fit n c.evaluate.ensures confidentiality refl c.requires.0))

pub list_side-second-requires : goal.list_side-second-requires
list_side-second-requires c =
    let n = c.args.n in (
      c.requires.0,
      long n c.evaluate.ensures integrity refl,
      simp (length-take, length-drop) (omega (
        arith,
        c.requires.1,
        c.list_side-first.ensures.size,
        fit n c.evaluate.ensures confidentiality refl c.requires.0,
        fit n c.evaluate.ensures integrity refl c.requires.0,
      )),
    )

pub returns : goal.returns
returns c =
    let n = c.args.n in
    sides_written c.requires.0 (tabled n c.evaluate.ensures confidentiality refl) (tabled n c.evaluate.ensures integrity refl) c.list_side-first.ensures c.list_side-second.ensures
