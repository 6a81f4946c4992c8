-- `places::sound::is_sound` meets its contract.
use Rattle.places.proofs.Sounds.{header-room, places-room, placed-soundly, overfull, headless, missized}
use Rattle.places.proofs.sound.is_sound.Goals as goal

pub returns-then-not-is_table_size : goal.returns-then-not-is_table_size
returns-then-not-is_table_size c = missized _ _ c.is_table_size.ensures c.if-not-is_table_size.true

pub is_header_sound-requires : goal.is_header_sound-requires
is_header_sound-requires c = header-room _ _ c.is_table_size.ensures c.if-not-is_table_size.false

pub returns-then-not-is_header_sound : goal.returns-then-not-is_header_sound
returns-then-not-is_header_sound c =
    headless _ _ c.is_table_size.ensures c.if-not-is_table_size.false _ c.is_header_sound.ensures c.if-not-is_header_sound.true

pub count_of-count-requires : goal.count_of-count-requires
count_of-count-requires c = header-room _ _ c.is_table_size.ensures c.if-not-is_table_size.false

pub places_of-requires : goal.places_of-requires
places_of-requires c = header-room _ _ c.is_table_size.ensures c.if-not-is_table_size.false

pub returns-then-places_of-count : goal.returns-then-places_of-count
returns-then-places_of-count c =
    overfull _ _ c.is_table_size.ensures c.if-not-is_table_size.false _ c.is_header_sound.ensures c.if-not-is_header_sound.false _ _ c.count_of-count.ensures.0 c.places_of.ensures c.if-places_of-count.true

pub afi_of-requires : goal.afi_of-requires
afi_of-requires c = header-room _ _ c.is_table_size.ensures c.if-not-is_table_size.false

pub are_places_sound-requires : goal.are_places_sound-requires
are_places_sound-requires c =
    places-room _ _ c.is_table_size.ensures c.if-not-is_table_size.false _ _ c.places_of.ensures c.if-places_of-count.false

pub returns : goal.returns
returns c =
    placed-soundly _ _ c.is_table_size.ensures c.if-not-is_table_size.false _ c.is_header_sound.ensures c.if-not-is_header_sound.false _ _ c.count_of-count.ensures.0 c.places_of.ensures c.if-places_of-count.false _ _ c.afi_of.ensures.0 c.are_places_sound.ensures
