-- The settings that rows stand for.
use Rattle.types.specs.declared.settings.Switches.{Switches}
use Rattle.types.specs.declared.settings.Delays.{Delays}
use Rattle.types.specs.declared.settings.ProducerSettings.{ProducerSettings}
use Rattle.rows.specs.Optional.{decode_mark, decode_u64}
use Rattle.rows.specs.declared.settings.SwitchesRow.{SwitchesRow}
use Rattle.rows.specs.declared.settings.DelaysRow.{DelaysRow}
use Rattle.rows.specs.declared.settings.SettingsRow.{SettingsRow}

abbrev pub decode_switches : SwitchesRow → Switches
decode_switches s =
    record {
      batching_enabled = decode_mark s.batching_enabled;
      chunking_enabled = decode_mark s.chunking_enabled;
      broker_ready = decode_mark s.broker_ready;
      closed = decode_mark s.closed;
    }

abbrev pub decode_delays : DelaysRow → Delays
decode_delays d = record { send_timeout = decode_u64 d.send_timeout; batching_max_publish_delay = decode_u64 d.batching_max_publish_delay }

abbrev pub decode_settings : SettingsRow → ProducerSettings
decode_settings s = record { name = s.name; limits = s.limits; switches = decode_switches s.switches; delays = decode_delays s.delays }
