-- On a line, a cycle as a conversation comes to what a cycle is.
use Rattle.std.proofs.Common.{◌≡◌, ◌<◌, List, length, refl, ap, ◌∙◌, subst, sym}
use Rattle.std.proofs.lemmas.List.{append-nil}
use Rattle.telegrams.specs.Requests.{Sent}
use Rattle.values.proofs.Tables.{length-table}
use Rattle.lines.specs.Lines.{Meaning}
use Rattle.records.specs.Rows.{Row}
use Rattle.phases.specs.Conversations.{on_line}
use Rattle.phases.specs.Exchange.{exchange_dialogue}
use Rattle.phases.specs.Detection.{detect_dialogue}
use Rattle.phases.specs.Activation.{activate_dialogue}
use Rattle.phases.specs.Conversations.{done}
use Rattle.search.specs.Steps.{Stage}
use Rattle.search.specs.Searches.{taken_by}
use Rattle.control.specs.Cycles.{Master, Scene, beginning, everywhere, exchange, manage, stay_offline, run, cycle, running}
use Rattle.control.specs.Cycling.{course_of, managing, searching, to_phase, conversation_in, cycle_conversation}
use Rattle.control.specs.declared.control.Phase.{Phase}
use Rattle.control.specs.declared.control.Phase.TheVariants.{Offline, Detection, Activation, Normal}
use Rattle.control.proofs.Parts.{FirstInside, each_on_line, managed_on_line, managed_stays, searched_on_line}

module _ (c : Master) (l : Meaning) (first : FirstInside c.orders) (inside : (rs : List Row) → taken_by rs c.control.step < 32) (rows_32 : length c.control.rows ≡ 32) (places_32 : length l.places ≡ 32) where
  abbrev OnLine : Phase → Type 0
  OnLine p = on_line l.power (conversation_in p l.power c) l.places ≡ course_of (run p (beginning c l))

  normal_on_line : OnLine Normal
  unfolding everywhere manage
  normal_on_line =
      let s : Scene = exchange (beginning c l) in
      let stays = managed_stays s.master.orders s (length-table _, length-table _) in
      each_on_line (λ a. exchange_dialogue) (λ d. managing d.orders d searching) (beginning c l) (rows_32, places_32)
      ∙ managed_on_line searching s.master.orders s first (length-table _, length-table _)
      ∙ searched_on_line (manage s) (subst (λ (t : Stage). taken_by (manage s).master.control.rows t < 32) (sym stays.step) (inside _)) stays.sized

  phase_on_line : (p : Phase) → OnLine p
  unfolding stay_offline
  phase_on_line Offline = refl
  phase_on_line Detection =
      each_on_line (λ a. detect_dialogue) (λ d. done (to_phase Activation d)) (beginning c l) (rows_32, places_32)
      ∙ ap (λ (qs : List Sent). record (course_of (run Detection (beginning c l))) { sent = qs }) (append-nil _)
  phase_on_line Activation =
      each_on_line (activate_dialogue c.control.mode) (λ d. done (to_phase Normal d)) (beginning c l) (rows_32, places_32)
      ∙ ap (λ (qs : List Sent). record (course_of (run Activation (beginning c l))) { sent = qs }) (append-nil _)
  phase_on_line Normal = normal_on_line

  pub cycle_on_line : on_line l.power (cycle_conversation (running c.control l) l.power c) l.places ≡ course_of (cycle c l)
  unfolding cycle_conversation cycle
  cycle_on_line = phase_on_line (running c.control l)
