-- What a stranger must believe: the statuses and their lines; how a build, a watcher, each of them
-- with a keeper, a demo and a formatting end; the call; what profiles keep; and what a layout
-- keeps.
pub mod Statuses
pub mod Builds
pub mod KeptBuilds
pub mod Watches
pub mod KeptWatches
pub mod Demos
pub mod Formats
pub mod Calls
pub mod Profiles
pub mod Layouts
