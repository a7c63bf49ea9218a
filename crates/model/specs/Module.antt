-- Document 01's module: what its sections say, in the shape that any module with two ports has (ports, specs/Modules.antt).
-- Assumes nothing.
use Rattle.std.specs.Prelude.{◌*◌}
use Rattle.laws.specs.Words.{ℕ, List}
use Rattle.ports.specs.Modules.{Module}
use Rattle.model.specs.Map.{page_size, memory_size, record_size, page_at, sound, seat}
use Rattle.model.specs.Reset.{reset_rows, fresh}
use Rattle.model.specs.Samples.{sample_size, stored, raised}
use Rattle.model.specs.Interrupt.{count, stands}
use Rattle.model.specs.Reading.{seen, cleared, shared, is_shared}
use Rattle.model.specs.Writing.{puts, all_mine}

abbrev pub document01 : Module (List ℕ)
document01 = record {
  memory_size = memory_size;
  record_size = record_size;
  sound = sound;
  reach = 2 * page_size;
  all_mine = λ o a n. all_mine (o page_at) a n;
  sample_size = sample_size;
  image_rows = reset_rows;
  fresh = λ img mem i. fresh img i (mem i);
  stored = λ mem x i. stored mem x i (mem i);
  raised = raised;
  cleared = λ mem a n o. cleared a n o;
  puts = λ m p a vs. puts m p (m.own p page_at) a vs;
  seen = seen;
  count = count;
  stands = stands;
  shared = shared;
  leads_shared = λ o a. is_shared (seat (o page_at) a);
}
