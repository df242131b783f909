-- The fields of consumer channel status (IEC 60958-3) as C is told them.
use Rattle.std.specs.Prelude.{ℕ, List, [], ◌∷◌, ◌++◌, ◌<◌, ◌+◌, ◌^◌}
use Rattle.aes3_status.specs.declared.field.ConField.TheVariants as con
use Rattle.aes3_status.specs.Consumer.{payload, copyright, emphasis, mode, category, generation, source, number, rate}
use Rattle.aes3_status.specs.Consumer.{accuracy, b3high, greatest, word, original, rest, con_place}
use Rattle.aes3_c.specs.Codes.{code_from}
use Rattle.aes3_c.specs.declared.consumer_calls.Aes3Consumer.{Aes3Consumer}

abbrev pub consumer_fields : List ℕ → Aes3Consumer
consumer_fields bytes = record {
  payload = payload bytes;
  copyright = copyright bytes;
  emphasis = emphasis bytes;
  mode = mode bytes;
  category = category bytes;
  generation = generation bytes;
  source = source bytes;
  number = number bytes;
  rate = rate bytes;
  accuracy = accuracy bytes;
  b3high = b3high bytes;
  greatest = greatest bytes;
  word = word bytes;
  original = original bytes;
  rest = rest bytes;
}

-- each field within a byte has bits for its code
pub record ConsumerFits (f : Aes3Consumer) : Type 0 where
  pub payload : f.payload < 2 ^ (con_place con.Payload).count
  pub copyright : f.copyright < 2 ^ (con_place con.Copyright).count
  pub emphasis : f.emphasis < 2 ^ (con_place con.Emphasis).count
  pub mode : f.mode < 2 ^ (con_place con.Mode).count
  pub category : f.category < 2 ^ (con_place con.Category).count
  pub generation : f.generation < 2 ^ (con_place con.Generation).count
  pub source : f.source < 2 ^ (con_place con.Source).count
  pub number : f.number < 2 ^ (con_place con.Number).count
  pub rate : f.rate < 2 ^ (con_place con.Rate).count
  pub accuracy : f.accuracy < 2 ^ (con_place con.Accuracy).count
  pub b3high : f.b3high < 2 ^ (con_place con.B3high).count
  pub greatest : f.greatest < 2 ^ (con_place con.Greatest).count
  pub word : f.word < 2 ^ (con_place con.Word).count
  pub original : f.original < 2 ^ (con_place con.Original).count

-- the bytes of such fields before those of `rest`
abbrev pub first_bytes : Aes3Consumer → List ℕ
first_bytes f =
    (code_from (con_place con.Payload).first f.payload + code_from (con_place con.Copyright).first f.copyright
    + code_from (con_place con.Emphasis).first f.emphasis + code_from (con_place con.Mode).first f.mode)
    ∷ (code_from (con_place con.Category).first f.category + code_from (con_place con.Generation).first f.generation)
    ∷ (code_from (con_place con.Source).first f.source + code_from (con_place con.Number).first f.number)
    ∷ (code_from (con_place con.Rate).first f.rate + code_from (con_place con.Accuracy).first f.accuracy
    + code_from (con_place con.B3high).first f.b3high)
    ∷ (code_from (con_place con.Greatest).first f.greatest + code_from (con_place con.Word).first f.word
    + code_from (con_place con.Original).first f.original)
    ∷ []

abbrev pub consumer_bytes : Aes3Consumer → List ℕ
consumer_bytes f = first_bytes f ++ f.rest
