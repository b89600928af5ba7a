use Rattle.std.proofs.Common.{◌≡◌, ℕ, sym, refl, ap, ◌∙◌}
use Rattle.lists.specs.Members.{has}
use Rattle.lists.specs.declared.pair.Lists.{Lists}
use Rattle.records.specs.Rows.{Row, row_at}
use Rattle.records.specs.Records.{rows}
use Rattle.records.specs.Modes.{in_configuration}
use Rattle.records.specs.declared.record.Mode.{Mode}
use Rattle.records.specs.declared.record.Mode.TheVariants.{Configuration, Protected}
use Rattle.records.specs.contracts.record.Mode.{the_type as the_mode}
use Rattle.records.proofs.Written.{row_is}
use Rattle.control.specs.Placing.{is_normal}
use Rattle.control.specs.declared.control.Phase.{Phase}
use Rattle.control.specs.declared.control.Phase.TheVariants.{Offline, Detection, Activation, Normal}
use Rattle.control.specs.contracts.control.Phase.{the_type as the_phase}
use denote.Enum.Bare.{sameb}
use Rattle.control.proofs.control.ExecutionControl.read_lists.Goals as goal

is_configuration : (m : Mode) → sameb the_mode m Configuration ≡ in_configuration m
is_configuration Configuration = refl
is_configuration Protected = refl

is_running : (p : Phase) → sameb the_phase p Normal ≡ is_normal p
is_running Offline = refl
is_running Detection = refl
is_running Activation = refl
is_running Normal = refl

pub returns : goal.returns
returns c =
    let r = c.args.self.now.table.rows in
    let row = row_is r.lists.lds r.lists.las r.lps r.entries in
    let lists = c.lists-lps.ensures.lists in
    let lds : c.lds.result ≡ r.lists.lds = c.lds.ensures ∙ ap (λ (l : Lists). l.lds) lists in
    let las : c.las.result ≡ r.lists.las = c.las.ensures ∙ ap (λ (l : Lists). l.las) lists in
    record {
      detected = λ a h. ap (λ (w : ℕ). has w a) lds ∙ sym (ap (λ (x : Row). x.detected) (row a h));
      active = λ a h. ap (λ (w : ℕ). has w a) las ∙ sym (ap (λ (x : Row). x.active) (row a h));
      projected = λ a h. ap (λ (w : ℕ). has w a) c.lists-lps.ensures.lps ∙ sym (ap (λ (x : Row). x.projected) (row a h));
      config_right = c.config_ok.ensures;
      zero_detected = c.is_detected.ensures ∙ ap (λ (a : ℕ). (row_at a (rows r)).detected) c.low.ensures;
      configuring = c.eq.ensures ∙ ap (λ (m : Mode). sameb the_mode m Configuration) c.mode.ensures ∙ is_configuration c.args.self.now.table.mode;
      running = c.eq-2.ensures ∙ is_running c.args.self.now.phase;
      power_failed = refl;
      offline_requested = refl;
    }
