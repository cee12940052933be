pub mod SoundParts
pub mod Images
