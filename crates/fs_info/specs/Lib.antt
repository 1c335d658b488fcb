pub mod InfoTexts
pub mod Infos
