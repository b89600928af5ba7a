-- A script of calls in words, eight for each call: code, a, b, c, d, where, word, and one that is not looked at.
-- A reader compares the codes with the list of them in docs/COMPARE.md. What a call does is said by the crates `promise` and `runs`.
use Rattle.std.specs.Prelude.{ℕ, zero, suc, cond, not, List, [], ◌∷◌, length, drop, Some, None, Option, ◌==◌, nat_lt, slice_index}
use Rattle.records.specs.Edits.{Edit, projecting, unprojecting, taking_over}
use Rattle.records.specs.declared.record.Mode.{Mode}
use Rattle.records.specs.declared.record.Mode.TheVariants.{Configuration, Protected}
use Rattle.lines.specs.Lines.{Meaning}
use Rattle.promise.specs.Successions.{Call, Turn, parameter, reset, placing, collecting, of_inputs, of_lists, reading, of_outputs, writing, of_mode, of_offline, setting, editing, projecting_all, cycling, calling}
use Rattle.exports.specs.declared.script.Entry.{Entry}

-- the entry with which a script begins
abbrev pub entry_in : List ℕ → Entry
entry_in ws =
    record {
      code = slice_index ws 0;
      a = slice_index ws 1;
      b = slice_index ws 2;
      c = slice_index ws 3;
      d = slice_index ws 4;
      place = slice_index ws 5;
      word = slice_index ws 6;
    }

-- Edits

abbrev pub edit_by : Entry → Option Edit
edit_by e =
    cond (e.code == 9) (Some (projecting e.a e.b e.c e.d))
    (cond (e.code == 10) (Some (unprojecting e.a))
    (cond (e.code == 11) (Some taking_over) None))

-- the edit with which a script goes on, where it goes on with one
abbrev pub next_edit : List ℕ → Option Edit
next_edit ws = cond (nat_lt (length ws) 8) None (edit_by (entry_in ws))

-- edits that stand one behind the other in a script, and what is behind them
pub record Edits : Type 0 where
  pub edits : List Edit
  pub rest : List ℕ

abbrev pub no_edits : List ℕ → Edits
no_edits ws = record { edits = []; rest = ws }

abbrev pub and_more : List ℕ → Option Edit → Edits → Edits
and_more ws None more = no_edits ws
and_more ws (Some e) more = record { edits = e ∷ more.edits; rest = more.rest }

-- at most n edits, up to the first entry that is none
unfoldable pub edits_in : ℕ → List ℕ → Edits
edits_in zero ws = no_edits ws
edits_in (suc n) ws = and_more ws (next_edit ws) (edits_in n (drop 8 ws))

-- an entry with a code above 11 opens a projection, and makes through it the edits that follow, up to four; any other is a call alone
abbrev pub edits_of : Entry → List ℕ → Edits
edits_of e ws = cond (nat_lt 11 e.code) (edits_in 4 ws) (no_edits ws)

-- Calls

abbrev pub mode_by : ℕ → Mode
mode_by n = cond (n == 0) Configuration Protected

abbrev pub edit_or_projection : Option Edit → List Edit → Call
edit_or_projection (Some e) es = editing e
edit_or_projection None es = projecting_all es

-- the call of an entry that is no cycle; one that opens a projection makes edits es
abbrev pub call_by : Entry → List Edit → Call
call_by e es =
    cond (e.code == 1) (placing (parameter e.a e.b))
    (cond (e.code == 2) (placing (reset e.a))
    (cond (e.code == 3) collecting
    (cond (e.code == 4) (writing (of_outputs e.a e.b))
    (cond (e.code == 5) (reading (of_inputs e.a))
    (cond (e.code == 6) (reading of_lists)
    (cond (e.code == 7) (setting (of_mode (mode_by e.a)))
    (cond (e.code == 8) (setting (of_offline (not (e.a == 0))))
    (edit_or_projection (edit_by e) es))))))))

-- the call of an entry, on a line that it meets so
abbrev pub turn_by : Entry → List Edit → Meaning → Turn
turn_by e es line = cond (e.code == 0) (cycling line) (calling (call_by e es))
