use Rattle.std.proofs.Common.{◌≡◌, Ok, Err}
use Rattle.std.specs.Prelude.{option_map}
use Rattle.std.proofs.lemmas.Result.{err_from_is_err_and}
use Rattle.ifl_engine.specs.declared.stop.Input.TheVariants as input
use Rattle.ifl_engine.specs.Read.{names_of}
use Rattle.ifl_engine.specs.Loading.{each_from, settings_file, capture_file}
use Rattle.ifl_engine.specs.Loaded.{bytes_of, each_bytes, bytes_seen}
use Rattle.ifl_engine.specs.Steps.{IsRead}
use Rattle.ifl_engine.proofs.Loading.{of_settings, bytes_read-stopped, bytes_read-ok}
use Rattle.ifl_engine.proofs.ReadLaws.{for_both}
use Rattle.ifl_engine.proofs.Risen.{risen, risen_late}
use Rattle.ifl_engine.proofs.reading.read_files.Goals as goal

pub returns-in_err-captures-clause-read : goal.returns-in_err-captures-clause-read
returns-in_err-captures-clause-read g c =
    let stopped = err_from_is_err_and c.from_residual-in_err-captures.result c.from_residual-in_err-captures.ensures.1 in
    rw (stopped.1, stopped.2) (for_both (g.H.Host.files c.args.host.now) _ _ _ of_settings
    (λ source. settings_file (names_of c.args.names.now).settings (source input.Settings) ≡ Ok (option_map bytes_of c.in_ok-settings.settings))
    (λ source. IsRead each_bytes (Err c.in_err-captures.field-0.0) (each_from (capture_file source) 0 (names_of c.args.names.now).files)) _
    (λ rose. risen (g.H.Host.faults c.args.host.now) (g.H.Host.faults c.read_settings_file.new.host) (g.H.Host.faults c.read_captures.new.host) rose c.in_err-captures.ensures.later)
    (λ rose. risen_late (g.H.Host.faults c.args.host.now) (g.H.Host.faults c.read_settings_file.new.host) (g.H.Host.faults c.read_captures.new.host) c.in_ok-settings.ensures.later rose)
    (λ p q first second. bytes_read-stopped each_bytes bytes_seen (names_of c.args.names.now) p q (option_map bytes_of c.in_ok-settings.settings) c.in_err-captures.field-0.0 first second)
    c.in_ok-settings.ensures.read
    (rw (c.as_slice.ensures.value, c.in_ok-settings.ensures.files) at c.in_err-captures.ensures.read))

pub returns-clause-read : goal.returns-clause-read
returns-clause-read g c =
    for_both (g.H.Host.files c.args.host.now) _ _ _ of_settings
    (λ source. settings_file (names_of c.args.names.now).settings (source input.Settings) ≡ Ok (option_map bytes_of c.in_ok-settings.settings))
    (λ source. each_from (capture_file source) 0 (names_of c.args.names.now).files ≡ Ok (each_bytes c.in_ok-captures.captures)) _
    (λ rose. risen (g.H.Host.faults c.args.host.now) (g.H.Host.faults c.read_settings_file.new.host) (g.H.Host.faults c.read_captures.new.host) rose c.in_ok-captures.ensures.later)
    (λ rose. risen_late (g.H.Host.faults c.args.host.now) (g.H.Host.faults c.read_settings_file.new.host) (g.H.Host.faults c.read_captures.new.host) c.in_ok-settings.ensures.later rose)
    (λ p q first second. bytes_read-ok (names_of c.args.names.now) p q (option_map bytes_of c.in_ok-settings.settings) (each_bytes c.in_ok-captures.captures) first second)
    c.in_ok-settings.ensures.read
    (rw (c.as_slice.ensures.value, c.in_ok-settings.ensures.files) at c.in_ok-captures.ensures.read)
