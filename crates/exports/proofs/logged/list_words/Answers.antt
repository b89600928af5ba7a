use Rattle.std.proofs.Common.{◌≡◌, arith}
use Rattle.values.specs.Tables.{table}
use Rattle.lists.specs.Members.{has}
use Rattle.exports.specs.Logging.{list_word}
use Rattle.exports.proofs.Logging.{list_read}
use Rattle.exports.proofs.logged.list_words.Goals as goal

pub returns : goal.returns
returns c =
    let read = c.args.read.now in
    let lds : list_word (table (has read.lds)) ≡ read.lds = list_read read.lds (omega arith) in
    let las : list_word (table (has read.las)) ≡ read.las = list_read read.las (omega arith) in
    let lps : list_word (table (has read.lps)) ≡ read.lps = list_read read.lps (omega arith) in
    cc
